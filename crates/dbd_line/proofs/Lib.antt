pub mod Row
pub mod Told
pub mod Said
