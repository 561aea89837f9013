pub mod Numbers
pub mod Upwards
pub mod Orders
pub mod Changes
pub mod Trees
pub mod Places
pub mod Known
pub mod Tables
