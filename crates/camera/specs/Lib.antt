pub mod Cameras
pub mod Grid
pub mod Laws
pub mod Opening
pub mod SampleRanges
pub mod Slopes
pub mod Values
pub mod Visibility
