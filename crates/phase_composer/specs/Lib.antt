pub mod Family
pub mod Best
