pub mod Jobs
pub mod Known
pub mod Table
