pub mod Blocks
pub mod DistinctKeys
pub mod KeyLaws
pub mod Packing
pub mod PartLemmas
pub mod SummaryLemmas
pub mod VoxelLists
pub mod WordLaws
