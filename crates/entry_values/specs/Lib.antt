pub mod Reader
pub mod Mix
