pub mod Shares
pub mod Names
pub mod Turns
pub mod Laws
