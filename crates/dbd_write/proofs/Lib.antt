pub mod Joined
pub mod Spelling
pub mod Growing
pub mod Given
