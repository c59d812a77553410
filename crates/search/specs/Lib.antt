pub mod Stretch
pub mod Good
