pub mod LeftToTest
pub mod EntryTests
pub mod Levelled
