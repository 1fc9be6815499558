pub mod Check
pub mod Plan
pub mod Words
pub mod Sample
pub mod Outcome
pub mod Session
