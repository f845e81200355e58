pub mod Generated
pub mod Scene
pub mod Supply
