pub mod Parts
pub mod Printed
pub mod Kept
