-- What all tables keep together.
use Rattle.std.specs.Prelude.{◌≡◌, ℕ, Bool, true, false, ◌==◌, Option, Some, None, count_by, is_some, IfSome, if◌then◌else◌}
use Rattle.std.specs.List.{list_all}
use Rattle.vn_types.specs.declared.interface.HalfId.{HalfId}
use Rattle.vn_types.specs.declared.interface.IfName.{IfName}
use Rattle.vn_types.specs.declared.interface.IfName.TheVariants.{Epair}
use Rattle.vn_types.specs.declared.interface.IfOf.{IfOf}
use Rattle.vn_types.specs.declared.interface.IfOf.TheVariants.{Lo0, Half}
use Rattle.vn_types.specs.declared.interface.Side.{Side}
use Rattle.vn_types.specs.Interfaces.{half_id_eq, if_same}
use Rattle.vn_rules.specs.Construction.{bare_parts}
use Rattle.vn_rules.specs.Named.{if_name, ifname_eq}
use Rattle.vn_rules.specs.Scenes.{is_queue}
use Rattle.vn_rules.specs.Soundness.{is_sound_parts}
use Rattle.vn_rules.specs.Variables.{declarations}
use Rattle.vn_arp.specs.Kept.{KnowsArms}
use Rattle.vn_arp.specs.Stacks.{of as arp_of}
use Rattle.vn_callout.specs.Stacks.{of as timers_of}
use Rattle.vn_epair.specs.Halves.{Pair}
use Rattle.vn_epair.specs.Pairs.{end_of}
use Rattle.vn_ifnet.specs.declared.interfaces.Attached.{Attached}
use Rattle.vn_ifnet.specs.Stacks.{is_another, reserved_by}
use Rattle.vn_loop.specs.Queues.{of as loopback_of}
use Rattle.vn_store.specs.Held.{of as variables_of}
use Rattle.vn_vmove.specs.declared.tables.Tables.{Tables}
use Rattle.vn_vmove.specs.Parts.{held, lives, pair_at, parts}

-- ---- where halves stand

-- whether the half of that side stands in a stack
abbrev pub stands_at : ℕ → Side → Option Pair → Bool
stands_at q side None = false
stands_at q side (Some pair) = (end_of side pair).at == q

-- once, or not at all
abbrev pub times : Bool → ℕ
times b = if b then 1 else 0

-- how often a stack lists an interface: lo0 where the stack lives, a half where it stands there
abbrev pub times_listed : Tables → ℕ → IfOf HalfId → ℕ
times_listed t q Lo0 = times (lives t q)
times_listed t q (Half h) = times (stands_at q h.side (pair_at t h.pair))

-- ---- under which names

-- the name of a half: its pair's unit and its side
abbrev pub half_name : Option Pair → Side → IfName
half_name None side = Epair 0 side
half_name (Some pair) side = Epair pair.unit side

-- the name of a half, by the pairs that there are
abbrev pub name_in : Tables → HalfId → IfName
name_in t h = half_name (pair_at t h.pair) h.side

-- whether an interface stands under its own name
abbrev pub is_rightly_named : Tables → Attached → Bool
is_rightly_named t a = ifname_eq a.name (if_name (name_in t) a.what)

-- the pair is homed in the stack, and this is the name of its half of that side
abbrev pub IsHomedAs : ℕ → IfName → Side → Option Pair → Type 0
IsHomedAs q name side None = ⊥
IsHomedAs q name side (Some pair) = (pair.home ≡ q) × (Epair pair.unit side ≡ name)

-- ---- all of it

-- what the tables of all stacks and all pairs keep together, before each call and after it
pub record IsSound (t : Tables) : Type 0 where
  -- what a living stack's tables keep among themselves
  pub tables : (q : ℕ) → lives t q ≡ true → is_sound_parts half_id_eq (parts t q) ≡ true
  -- nothing is kept for a stack that does not live
  pub bare : (q : ℕ) → lives t q ≡ false → parts t q ≡ bare_parts
  -- each living stack has its variables
  pub instances : (q : ℕ) → is_some (variables_of t.vars q) ≡ lives t q
  -- and its loopback queue
  pub loopbacks : (q : ℕ) → is_some (loopback_of t.loops q) ≡ lives t q
  -- the variables are those that are declared
  pub declared : t.vars.declared ≡ declarations
  -- a living stack lists lo0 and exactly the halves that stand there, each once
  pub listed : (q : ℕ) (on : IfOf HalfId)
      → count_by (if_same half_id_eq on) (parts t q).interfaces ≡ times_listed t q on
  -- each half stands in a living stack
  pub places : (h : HalfId) → IfSome (pair_at t h.pair) (λ pair. lives t (end_of h.side pair).at ≡ true)
  -- each pair is homed in one
  pub homes : (n : ℕ) → IfSome (pair_at t n) (λ pair. lives t pair.home ≡ true)
  -- each interface stands under its own name
  pub names : (q : ℕ) → list_all (is_rightly_named t) (held t q).attached ≡ true
  -- a name stands at most once in a stack
  pub once : (q : ℕ) (g h : HalfId) → stands_at q g.side (pair_at t g.pair) ≡ true
      → stands_at q h.side (pair_at t h.pair) ≡ true → name_in t g ≡ name_in t h → g ≡ h
  -- a name is reserved for no half but one whose home and name they are
  pub reserved : (q : ℕ) (name : IfName) → IfSome (reserved_by name (held t q))
      (λ h. IsHomedAs q name h.side (pair_at t h.pair))
  -- and each half has its name reserved at home
  pub homed : (h : HalfId) → IfSome (pair_at t h.pair)
      (λ pair. reserved_by (Epair pair.unit h.side) (held t pair.home) ≡ Some h)
  -- where a half stands, its name is reserved for no other
  pub apart : (h : HalfId) → IfSome (pair_at t h.pair) (λ pair.
      is_another (reserved_by (Epair pair.unit h.side) (held t (end_of h.side pair).at)) (Some h) ≡ false)
  -- the arm numbers that are kept are those of the timers
  pub arms : (q : ℕ) → KnowsArms half_id_eq (arp_of t.arp q) (timers_of t.wheel q)
  -- no half sent more frames that still wait than a queue can have
  pub queues : (h : HalfId) → IfSome (pair_at t h.pair) (λ pair. is_queue (end_of h.side pair).sent ≡ true)
