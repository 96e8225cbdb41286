pub mod Held
pub mod Medium
pub mod Shelf
