pub mod Decimals
pub mod Ink
pub mod Pieces
pub mod Readings
pub mod Rows
pub mod Spelled
pub mod Splits
pub mod Values
