pub mod LinkLemmas
pub mod BoundLemmas
pub mod TimingLemmas
