pub mod Fewer
mod Lines
