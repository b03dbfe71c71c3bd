-- Laws that belong to no one function.
pub mod Writes
pub mod Layouts
pub mod Runs
pub mod Images
pub mod Numbers
pub mod Appends
pub mod Restores
pub mod Back
pub mod Distinct
pub mod Theorems
