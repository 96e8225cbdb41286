pub mod Accounts
pub mod Docket
