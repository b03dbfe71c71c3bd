pub mod Output
pub mod Chunk
pub mod Taken
pub mod Whole
