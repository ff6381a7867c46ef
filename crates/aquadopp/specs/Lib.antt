pub mod Heads
pub mod Opened
pub mod Sounds
pub mod Structures
pub mod Verdicts
