pub mod Rows
pub mod Twins
pub mod Keys
pub mod Listing
pub mod Passing
