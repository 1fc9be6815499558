pub mod SumLemmas
pub mod PriceLemmas
