pub mod Step
pub mod Table
pub mod Rules
pub mod Ranges
pub mod Times
pub mod Cost
pub mod Grid
