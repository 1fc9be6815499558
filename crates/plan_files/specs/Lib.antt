pub mod FaultWords
pub mod Kinds
pub mod FreshRules
