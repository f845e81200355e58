pub mod BlockLemmas
pub mod PlaceLemmas
pub mod PlyLemmas
pub mod PointLemmas
