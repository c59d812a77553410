pub mod Shown
pub mod Onward
pub mod Given
pub mod Report
pub mod Loop
