pub mod Custody
pub mod Laws
pub mod Operations
pub mod Steps
