pub mod Held
pub mod Maps
pub mod Next
pub mod Places
pub mod Rows
pub mod Sums
