pub mod Lent
pub mod Sound
