pub mod PointLemmas
pub mod ListLemmas
pub mod LateLemmas
pub mod HoldLemmas
pub mod ShowLemmas
