pub mod BandViews
pub mod Bands
pub mod Laws
pub mod Memos
pub mod Remaining
pub mod RemainingKeys
