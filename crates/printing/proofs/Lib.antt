pub mod Puts
pub mod Decimals
pub mod Runs
pub mod Sayings
