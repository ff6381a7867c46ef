pub mod Faults
pub mod Least
pub mod Places
pub mod Questions
pub mod Words
