pub mod Handed
pub mod Reading
