-- epair(4): pairs that are made, changed and destroyed, and halves that are attached and taken out.
pub mod Listed
pub mod Parts
pub mod Cut
pub mod Unmade
pub mod Made
pub mod Ether
pub mod Lowest
pub mod Named
pub mod Fine
pub mod NamedAlike
pub mod Alike
pub mod RulesAlike
pub mod Belongs
