pub mod Asked
pub mod Firsts
pub mod Leasts
