pub mod Fill
pub mod Decimals
pub mod Rounded
pub mod Clock
pub mod Energy
pub mod Names
pub mod Arrivals
