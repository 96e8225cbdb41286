pub mod Opened
pub mod Opens
pub mod Shape
pub mod Tried
pub mod VaultLaws
pub mod Vaults
