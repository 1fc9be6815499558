pub mod RelaxedLemmas
pub mod SingleLemmas
