pub mod Hash
pub mod Lanes
pub mod Stream
