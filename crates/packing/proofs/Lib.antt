-- Laws that belong to no one function.
pub mod Clears
pub mod Lists
pub mod Seats
pub mod Fills
pub mod Copying
pub mod Packs
