pub mod Left
pub mod Letters
pub mod Digits
pub mod Names
pub mod Spans
pub mod Behind
