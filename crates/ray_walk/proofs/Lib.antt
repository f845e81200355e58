pub mod FormLemmas
pub mod FormSums
pub mod PointLemmas
pub mod RayQuotients
pub mod VoxelLemmas
pub mod WalkLemmas
