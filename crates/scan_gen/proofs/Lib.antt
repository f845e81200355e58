pub mod Depths
pub mod Outside
pub mod Pieces
pub mod Products
pub mod Rasters
pub mod Roots
pub mod Scenes
pub mod Texts
