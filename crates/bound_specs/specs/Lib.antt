pub mod Cells
pub mod Chains
pub mod Prices
pub mod Links
pub mod Feasible
pub mod ChainValues
pub mod Renewal
