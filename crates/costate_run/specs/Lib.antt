pub mod Words
pub mod Offers
pub mod Plan
pub mod Check
pub mod Outcome
