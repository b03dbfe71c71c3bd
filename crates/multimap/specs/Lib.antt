-- What the contracts of `multimap` cite.
pub mod Sized
pub mod Map
pub mod Changes
pub mod WellLinked
pub mod Making
pub mod Represents
pub mod Links
pub mod Adding
pub mod Strike
pub mod Sweep
pub mod Popping
pub mod Demand3
