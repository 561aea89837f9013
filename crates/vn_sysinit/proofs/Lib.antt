pub mod Insertion
pub mod AnyOrder
