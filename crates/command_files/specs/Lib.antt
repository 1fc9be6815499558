pub mod Answers
pub mod Files
pub mod Stage
pub mod Laws
