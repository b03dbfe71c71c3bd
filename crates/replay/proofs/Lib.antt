pub mod Tapes
pub mod Running
pub mod Places
pub mod Encode
