pub mod Covering
pub mod Sums
pub mod Ranges
pub mod Inequalities
pub mod Soundness
pub mod Worked
