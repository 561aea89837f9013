-- How the interfaces of one stack are kept: by order of attachment, with the order of each name and of each interface.
use Rattle.std.specs.Prelude.{◌≡◌, ℕ, List, Option, Some, None, IfSome}
use Rattle.std.specs.List.Sorted.{IsStrictlySortedBy}
use Rattle.std.specs.Map.{keys_of, lookup}
use Rattle.std.specs.BTreeMap.{is_at}
use Rattle.std.specs.Ordering.{nat_cmp}
use Rattle.vn_ifnet.specs.declared.interfaces.Attached.{Attached}
use Rattle.vn_ifnet.specs.Names.{name_number, if_number}

-- what is told under a number
abbrev pub told : {V : Type 0} → ℕ → List (ℕ × V) → Option V
told k es = lookup (is_at (nat_cmp k)) es

-- the number of the name under which an interface stands
abbrev pub number_of_name : Attached → ℕ
number_of_name a = name_number a.name

-- the number of the interface that stands
abbrev pub number_of_if : Attached → ℕ
number_of_if a = if_number a.what

-- an interface is found, and it has the number
abbrev pub HasNumber : (Attached → ℕ) → Option Attached → ℕ → Type 0
HasNumber number None w = ⊥
HasNumber number (Some a) w = number a ≡ w

-- the orders of what is attached, by a number of each
pub record IsIndex (number : Attached → ℕ) (attached : List (ℕ × Attached)) (index : List (ℕ × ℕ)) : Type 0 where
  -- each one's number tells its order
  pub placed : (k : ℕ) → IfSome (told k attached) (λ a. told (number a) index ≡ Some k)
  -- and no other does
  pub standing : (w : ℕ) → IfSome (told w index) (λ k. HasNumber number (told k attached) w)

-- what is attached, with its orders by name and by interface
pub record IsIndexed (attached : List (ℕ × Attached)) (names places : List (ℕ × ℕ)) : Type 0 where
  -- the orders ascend
  pub ordered : IsStrictlySortedBy nat_cmp (keys_of attached)
  -- each name tells its interface's order
  pub named : IsIndex number_of_name attached names
  -- and so does each interface
  pub placed : IsIndex number_of_if attached places
