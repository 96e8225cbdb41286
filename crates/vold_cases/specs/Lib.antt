pub mod Case
pub mod Played
