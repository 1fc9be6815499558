pub mod RunLemmas
pub mod AppendLemmas
pub mod PassedLemmas
