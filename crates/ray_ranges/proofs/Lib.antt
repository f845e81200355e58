pub mod BoxLemmas
pub mod CubeLemmas
pub mod MachineLemmas
pub mod PartLemmas
pub mod PixelLemmas
pub mod RangeLemmas
pub mod SlabLemmas
pub mod TileLemmas
