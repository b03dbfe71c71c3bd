-- Laws that belong to no one function.
pub mod Counters
pub mod Entries
pub mod Steps
