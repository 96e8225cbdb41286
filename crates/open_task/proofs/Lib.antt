pub mod Slots
pub mod Tried
pub mod ShownTurns
