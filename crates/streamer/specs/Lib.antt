pub mod Codes
pub mod Lending
pub mod Owners
pub mod Places
pub mod Plans
pub mod Seen
