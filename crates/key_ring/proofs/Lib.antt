pub mod Owners
pub mod Rings
pub mod Rows
