pub mod Chosen
pub mod Splits
pub mod Even
