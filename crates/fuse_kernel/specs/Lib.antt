pub mod Laws
pub mod Pixels
pub mod Updates
pub mod VoxelSteps
