pub mod Face
pub mod Session
