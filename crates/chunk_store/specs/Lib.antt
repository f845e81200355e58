pub mod Changes
pub mod Codes
pub mod Remaining
pub mod Rows
pub mod Store
