pub mod Number
pub mod Digits
pub mod Compared
pub mod Zero
pub mod Signs
pub mod Held
