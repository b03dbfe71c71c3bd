pub mod Tape
pub mod Played
pub mod Place
pub mod Encode
