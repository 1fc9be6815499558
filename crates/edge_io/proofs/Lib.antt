pub mod Putting
pub mod Files
pub mod Raising
pub mod CountLemmas
pub mod Streams
