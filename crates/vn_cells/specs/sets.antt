-- Sets of cells: what decides an event, what it changes, and isolation.
pub mod Sets
pub mod Changed
pub mod Isolation
