pub mod Numbered
pub mod Found
pub mod Noted
