pub mod Shape
pub mod TrainText
