pub mod Polynomial
pub mod Bytes
pub mod Aes
pub mod Gcm
pub mod Laws
pub mod Lanes
pub mod Sealed
