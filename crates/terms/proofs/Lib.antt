pub mod Rows
pub mod StatusTable
pub mod Signs
pub mod Moved
pub mod Verdict
