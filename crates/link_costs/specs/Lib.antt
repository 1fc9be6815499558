pub mod Soundness
pub mod PricedLaws
