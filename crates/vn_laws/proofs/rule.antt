-- What holds of any rule of the world.
pub mod Conditions
pub mod Answers
pub mod Alike
