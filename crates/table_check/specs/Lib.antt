pub mod Keys
pub mod Groups
pub mod Readers
pub mod Frame
