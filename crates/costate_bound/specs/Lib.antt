pub mod Relaxation
pub mod Costs
pub mod Terms
