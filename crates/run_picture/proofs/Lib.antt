pub mod ScaleLemmas
pub mod PictureExamples
