pub mod BlobNumbers
pub mod Rows
