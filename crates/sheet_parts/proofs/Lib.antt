pub mod FillLemmas
pub mod NameLemmas
pub mod SheetExamples
