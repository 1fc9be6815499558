pub mod SplitLemmas
pub mod Halving
pub mod Counting
