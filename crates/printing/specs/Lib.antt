pub mod Text
pub mod Put
pub mod Reply
pub mod Counts
pub mod Said
