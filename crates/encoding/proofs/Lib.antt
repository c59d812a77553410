pub mod Entries
pub mod Lists
pub mod Bytes
pub mod Made
pub mod Determined
