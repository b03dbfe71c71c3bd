pub mod Outputs
pub mod Chunks
pub mod Whole
