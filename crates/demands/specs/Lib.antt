pub mod StatusTable
pub mod PositionTable
pub mod Demand1
pub mod Demand2
pub mod Demand3
pub mod StartsOver
pub mod WrongStores
