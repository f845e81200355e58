pub mod CodedTable
pub mod Events
pub mod Refill
pub mod Rule
pub mod Steps
pub mod Seats
pub mod Spares
pub mod Touching
