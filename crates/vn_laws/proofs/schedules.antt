-- Which history a script asks for, and what is left where nothing waits.
pub mod InOrder
pub mod Settled
pub mod Due
pub mod Slept
pub mod Clock
