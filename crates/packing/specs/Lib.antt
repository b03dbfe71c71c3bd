-- What the contracts of `packing` cite.
pub mod Cleared
pub mod Building
