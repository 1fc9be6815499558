pub mod LineTexts
pub mod TextLaws
