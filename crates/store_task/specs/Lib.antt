pub mod Task
pub mod Turns
pub mod Laws
