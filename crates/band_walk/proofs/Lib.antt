pub mod BandSet
mod Keys
mod Machine
pub mod MemoLemmas
mod PixelLemmas
mod SampleLemmas
mod SideLemmas
mod StepLemmas
mod WalkLemmas
