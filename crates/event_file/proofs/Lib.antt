pub mod CountsRead
pub mod NameText
pub mod LineFaults
