pub mod Numbers
pub mod Text
pub mod Grammar
pub mod Part
pub mod Contents
