pub mod Endings
pub mod Fields
pub mod Apart
pub mod OneName
pub mod NameList
