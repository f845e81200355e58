pub mod Decimal
pub mod Division
pub mod Laws
pub mod PoseTest
pub mod Poses
pub mod Spelling
pub mod Vectors
