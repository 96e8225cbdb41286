pub mod Numbers
pub mod Products
pub mod Sums
pub mod Streams
pub mod Sealed
pub mod Nibbles
pub mod Halves
