pub mod Lists
pub mod Order
pub mod Changes
pub mod Keeps
pub mod Names
pub mod Next
pub mod Fillings
