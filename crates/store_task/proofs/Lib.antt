pub mod StoredFiles
pub mod HeldBlobs
pub mod Places
pub mod ShownTurns
pub mod AskedJobs
