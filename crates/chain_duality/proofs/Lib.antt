pub mod Orders
pub mod Lists
pub mod Duality
pub mod Finer
