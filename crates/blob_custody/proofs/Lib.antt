pub mod Left
pub mod Listed
pub mod Lists
pub mod Names
pub mod Recoveries
pub mod Renamings
pub mod Steps
