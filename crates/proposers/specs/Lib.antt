pub mod States
pub mod Offers
