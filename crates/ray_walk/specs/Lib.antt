pub mod Forms
pub mod Laws
pub mod Points
pub mod RaisedVoxels
pub mod Raising
