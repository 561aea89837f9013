-- ifconfig(8), up and down, and what lo0 refuses.
pub mod Ran
