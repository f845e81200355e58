pub mod Causes
pub mod Coming
pub mod Counted
pub mod Memory
pub mod Reading
pub mod Steps
