pub mod Adapted
pub mod Counted
pub mod MemSource
pub mod MemSink
pub mod Transfers
