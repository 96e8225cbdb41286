pub mod Key
pub mod Lanes
