pub mod Crossings
pub mod Ply
pub mod Steps
