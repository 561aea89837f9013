pub mod Putting
pub mod Reports
