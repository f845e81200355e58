pub mod Laws
pub mod Low
pub mod Tries
pub mod Views
pub mod Walk
