-- What waits in a world weighs less after each delivery, so that settling ends.
pub mod Sums
pub mod Ends
pub mod Falling
pub mod Lighter
pub mod Settling
pub mod Within
