pub mod Codes
pub mod Found
pub mod Gotten
pub mod OneList
pub mod Again
