pub mod Relaxed
