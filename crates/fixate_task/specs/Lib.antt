pub mod Task
pub mod Turns
