pub mod Entries
pub mod Start
pub mod Located
pub mod Data
pub mod Ancestry
