pub mod Headed
pub mod Laws
pub mod Pair
pub mod Stamped
pub mod Stored
pub mod Pairs
pub mod Stamps
pub mod Headers
