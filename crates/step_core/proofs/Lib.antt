pub mod Marks
pub mod Named
pub mod Tables
pub mod Unmarked
