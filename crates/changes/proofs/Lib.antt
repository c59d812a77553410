pub mod Told
pub mod Keys
pub mod Changed
pub mod Parent
pub mod Spots
