pub mod Told
pub mod Ready
