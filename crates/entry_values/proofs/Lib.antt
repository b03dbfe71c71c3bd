pub mod Mixing
pub mod Laws
pub mod Records
