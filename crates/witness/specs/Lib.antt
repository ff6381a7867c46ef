pub mod Premises
pub mod Records
pub mod Witness
pub mod Session
