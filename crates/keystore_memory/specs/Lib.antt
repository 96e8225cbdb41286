pub mod Format
pub mod Kept
