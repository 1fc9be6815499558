pub mod Contents
pub mod Lists
pub mod Holds
pub mod Refusals
