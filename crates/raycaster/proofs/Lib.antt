pub mod HitLemmas
pub mod LowLemmas
pub mod PictureLemmas
pub mod RowLemmas
pub mod SurfaceLemmas
pub mod TryLemmas
