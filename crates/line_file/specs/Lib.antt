pub mod Rows
pub mod RowFile
pub mod LineText
pub mod ServiceText
pub mod Names
pub mod OneMoreRow
pub mod Shape
