pub mod Without
pub mod Fixing
