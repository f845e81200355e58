pub mod Closes
pub mod Events
pub mod Hands
pub mod Rows
pub mod Rule
pub mod Seats
pub mod Steps
