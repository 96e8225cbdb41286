pub mod Layered
pub mod Trees
