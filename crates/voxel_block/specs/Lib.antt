pub mod Blocks
pub mod Chunks
pub mod Keys
pub mod Packing
pub mod Parts
pub mod Summaries
pub mod Voxels
pub mod Words
