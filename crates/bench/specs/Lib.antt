pub mod Bench
pub mod Known
pub mod Seen
pub mod Slots
pub mod Steps
