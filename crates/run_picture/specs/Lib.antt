pub mod Pen
pub mod Scale
pub mod Ticks
pub mod Curve
pub mod Stairs
pub mod Calls
pub mod Picture
