pub mod Rows
mod DrawExamples
