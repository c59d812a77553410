pub mod Result
pub mod Blocks
pub mod Lists
pub mod Spoiled
