-- The events that act in one stack.
pub mod Placed
pub mod Acted
pub mod Listed
pub mod Near
pub mod Alike
pub mod Events
pub mod Delivered
