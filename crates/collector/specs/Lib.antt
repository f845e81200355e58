pub mod Checks
pub mod Empty
pub mod Laws
