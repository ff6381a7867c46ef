pub mod Promise
pub mod Record
pub mod Rule
pub mod State
pub mod View
