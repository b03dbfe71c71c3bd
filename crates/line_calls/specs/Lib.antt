pub mod Answer
pub mod Replied
