pub mod Tables
pub mod Steps
pub mod Schedule
pub mod BitByBit
pub mod Chain
pub mod Transposed
