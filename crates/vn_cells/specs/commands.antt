-- The commands that reach beyond their stack, a module a family.
pub mod Jails
pub mod Taken
pub mod Pairs
pub mod Moves
pub mod Removal
