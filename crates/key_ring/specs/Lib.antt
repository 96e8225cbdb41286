pub mod Kept
pub mod Laws
pub mod Reference
pub mod Ring
