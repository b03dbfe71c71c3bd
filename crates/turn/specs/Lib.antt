-- What the contracts of `turn` cite.
pub mod Turned
