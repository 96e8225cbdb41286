pub mod Elements
pub mod Opened
pub mod Stores
