-- Laws that belong to no one function.
pub mod Marking
pub mod Ways
pub mod Fill
pub mod Linking
pub mod Chaining
pub mod Whole
pub mod Telling
