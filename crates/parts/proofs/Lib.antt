pub mod Letters
pub mod Headers
pub mod Written
pub mod Spoiled
