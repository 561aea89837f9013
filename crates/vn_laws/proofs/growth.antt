-- What a run of so many events comes to at most.
pub mod Numbers
pub mod Parts
pub mod Edits
pub mod Links
pub mod Jails
pub mod Acted
pub mod Near
pub mod Steps
pub mod Runs
