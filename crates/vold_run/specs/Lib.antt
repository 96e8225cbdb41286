pub mod Calls
pub mod Ends
pub mod Fits
pub mod Input
pub mod Lines
pub mod Rounds
pub mod Shown
