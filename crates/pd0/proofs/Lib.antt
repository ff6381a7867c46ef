mod KindsApart
mod Layers
mod Places
mod Walks
pub mod Wholes
