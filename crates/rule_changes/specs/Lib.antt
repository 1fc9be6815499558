pub mod Advance
pub mod Limits
pub mod Latest
