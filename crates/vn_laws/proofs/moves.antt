-- ifconfig(8), vnet and -vnet: halves that move from a stack to another.
pub mod Ends
pub mod Moved
pub mod Kept
pub mod Trees
pub mod Fine
pub mod Far
pub mod Alike
pub mod RulesAlike
pub mod Belongs
