pub mod Capped
pub mod Row
