pub mod Left
pub mod Fitting
pub mod Refused
pub mod Reports
pub mod EmptyList
pub mod Session
pub mod OneStep
