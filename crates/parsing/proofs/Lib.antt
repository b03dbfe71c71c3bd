pub mod Numbers
pub mod Gaps
pub mod Forms
pub mod Splits
