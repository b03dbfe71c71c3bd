-- What the contracts of `reading` cite.
pub mod Reads
pub mod Entry
