pub mod Points
pub mod Halves
pub mod Splitting
pub mod Covering
pub mod Fitting
