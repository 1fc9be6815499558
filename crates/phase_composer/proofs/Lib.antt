pub mod FamilyLemmas
pub mod CapLemmas
pub mod CoastingLemmas
mod FamilyExamples
