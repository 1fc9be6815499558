pub mod Left
pub mod Blank
pub mod Reading
pub mod Taking
pub mod RowFileLemmas
pub mod OneMoreItem
pub mod LineShape
pub mod ServiceShape
