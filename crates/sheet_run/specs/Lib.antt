pub mod Words
pub mod NamedServices
pub mod Claims
pub mod Shown
pub mod Outcome
