pub mod Forest
pub mod Shape
pub mod Runs
pub mod Rows
pub mod Numbers
pub mod Insert
pub mod Good
