-- What the contracts of `image` cite.
pub mod Bytes
pub mod Running
pub mod Image
pub mod Answers
pub mod Parts
