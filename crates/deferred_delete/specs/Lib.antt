pub mod Deferral
