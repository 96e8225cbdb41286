pub mod Facts
pub mod Images
pub mod OwnWorlds
pub mod Product
pub mod Timelines
pub mod Worlds
