-- All stacks and pairs by their numbers, and the edits that moves are made of.
use Rattle.std.specs.Prelude.{◌≡◌, ℕ, ◌==◌, length, Option, None, option_map, if◌then◌else◌}
use Rattle.vn_types.specs.declared.interface.HalfId.{HalfId}
use Rattle.vn_types.specs.declared.interface.IfOf.TheVariants.{Half}
use Rattle.vn_types.specs.Interfaces.{half_id_eq}
use Rattle.vn_rules.specs.declared.parts.PartsOf.{PartsOf}
use Rattle.vn_rules.specs.Interfaces.{with_interface, without_interface}
use Rattle.vn_rules.specs.Purge.{purged}
use Rattle.vn_epair.specs.Halves.{Pair}
use Rattle.vn_vmove.specs.declared.tables.Tables.{Tables}
use Rattle.vn_vmove.specs.Parts.{lives, pair_at, parts}

-- the tables of all stacks, and all pairs
pub record Net : Type 0 where
  -- of each stack number
  pub parts : ℕ → PartsOf HalfId
  -- of each number of a pair
  pub pairs : ℕ → Option Pair

-- as the tables hold them
abbrev pub net_of : Tables → Net
net_of t = record { parts = parts t; pairs = pair_at t }

-- a call leaves the tables so, and lets no stack live that did not, nor die
pub record Becomes (net : Net) (old new : Tables) : Type 0 where
  -- the tables of each stack
  pub parts : (q : ℕ) → parts new q ≡ net.parts q
  -- the pairs
  pub pairs : (n : ℕ) → pair_at new n ≡ net.pairs n
  -- who lives
  pub lives : (q : ℕ) → lives new q ≡ lives old q
  -- how many numbers of pairs were given
  pub numbers : length new.pairs ≡ length old.pairs

-- ---- edits

-- the tables of a stack, changed
abbrev pub on_stack : ℕ → (PartsOf HalfId → PartsOf HalfId) → Net → Net
on_stack q f net =
    record net { parts = λ r. if r == q then f (net.parts r) else net.parts r }

-- a pair, changed where there is one
abbrev pub on_pair : ℕ → (Pair → Pair) → Net → Net
on_pair n f net =
    record net { pairs = λ m. if m == n then option_map f (net.pairs m) else net.pairs m }

-- without a pair
abbrev pub without_pair : ℕ → Net → Net
without_pair n net = record net { pairs = λ m. if m == n then None else net.pairs m }

-- ---- a half in one stack

-- the half is the last of the interfaces
abbrev pub attached : HalfId → PartsOf HalfId → PartsOf HalfId
attached h p = record p { interfaces = with_interface (Half h) p.interfaces }

-- nothing of the stack names the half, and it is none of the interfaces
abbrev pub detached : HalfId → PartsOf HalfId → PartsOf HalfId
detached h p = record (purged half_id_eq h p) {
  interfaces = without_interface half_id_eq (Half h) (purged half_id_eq h p).interfaces;
}

-- the half is attached in a stack
abbrev pub attach : HalfId → ℕ → Net → Net
attach h q net = on_stack q (attached h) net

-- the half is purged and taken out in a stack
abbrev pub detach : HalfId → ℕ → Net → Net
detach h q net = on_stack q (detached h) net
