pub mod Rows
pub mod Catalogues
pub mod Values
pub mod Tables
pub mod Lists
pub mod Matches
pub mod Calls
pub mod AsBefore
