pub mod Dropped
pub mod Failures
pub mod Known
pub mod Listing
pub mod Named
pub mod Pushed
