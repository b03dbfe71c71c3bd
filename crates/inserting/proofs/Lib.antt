-- Laws that belong to no one function.
pub mod Emptying
pub mod Inserting
