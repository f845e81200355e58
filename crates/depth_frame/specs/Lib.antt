pub mod DepthMaps
pub mod Errors
pub mod Files
pub mod Pgm
pub mod Runs
