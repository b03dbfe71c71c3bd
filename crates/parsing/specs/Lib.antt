pub mod Line
pub mod Split
pub mod Told
