pub mod Bounds
pub mod Filling
pub mod FrontLaws
pub mod Fronts
pub mod Layout
pub mod Searching
pub mod Ways
