pub mod Phase
pub mod Report
