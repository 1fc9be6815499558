pub mod AppendLemmas
pub mod PointLemmas
pub mod TableExamples
