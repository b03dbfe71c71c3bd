-- Laws that belong to no one function.
pub mod Admissions
pub mod Appends
pub mod Strange
