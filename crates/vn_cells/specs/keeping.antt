-- What every world of a run keeps, and what a move leaves.
pub mod Standing
pub mod Sound
pub mod Moved
pub mod Clean
