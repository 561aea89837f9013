pub mod Unarmed
