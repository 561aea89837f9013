pub mod world
pub mod machine
pub mod commands
pub mod sets
pub mod keeping
pub mod texts
