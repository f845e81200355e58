pub mod Boxes
pub mod Cubes
pub mod Laws
pub mod Slabs
pub mod Tables
pub mod TileBoxes
pub mod Tiles
