-- What the contracts of `well_linked` cite.
pub mod Bounds
pub mod Marks
pub mod Chains
pub mod Told
