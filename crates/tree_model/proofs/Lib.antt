pub mod Images
pub mod Logic
pub mod Maps
pub mod Parts
pub mod Slots
pub mod Touch
