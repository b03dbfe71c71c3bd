pub mod Expels
pub mod WritesOut
