-- The entries of a stack in the order of a listing.
use Rattle.std.specs.Prelude.{◌≡◌, ℕ, Bool, true, false, ◌&&◌, ◌||◌, ◌==◌, nat_lt, List, [], ◌∷◌, Option, if◌then◌else◌}
use Rattle.std.specs.List.{find, count_by, list_all}
use Rattle.vn_types.specs.declared.address.Ip4.{Ip4}
use Rattle.vn_types.specs.declared.address.Mac.{Mac}
use Rattle.vn_types.specs.declared.interface.HalfId.{HalfId}
use Rattle.vn_types.specs.declared.interface.Side.{Side}
use Rattle.vn_types.specs.declared.interface.Side.TheVariants.{A, B}
use Rattle.vn_types.specs.Interfaces.{half_id_eq}
use Rattle.vn_rules.specs.declared.arp.ArpEntryOf.{ArpEntryOf}
use Rattle.vn_rules.specs.declared.arp.ArpState.{ArpState}
use Rattle.vn_rules.specs.Soundness.{has_distinct_entries}
use Rattle.vn_arp.specs.declared.gone.At.{At}
use Rattle.vn_arp.specs.Kept.{KeptOf, entries_of}

-- where an entry is
abbrev pub at_of : ArpEntryOf HalfId → At
at_of e = record { half = e.half; ip = e.ip }

-- whether a side comes before another
abbrev pub side_before : Side → Side → Bool
side_before A B = true
side_before _ _ = false

-- whether a half comes before another: by the number of the pair, then by side
abbrev pub half_before : HalfId → HalfId → Bool
half_before g h = nat_lt g.pair h.pair || ((g.pair == h.pair) && side_before g.side h.side)

-- whether a place comes before another: by address, then by half
abbrev pub at_before : At → At → Bool
at_before a b = nat_lt a.ip.0 b.ip.0 || ((a.ip.0 == b.ip.0) && half_before a.half b.half)

-- whether an entry comes before another, by where they are
abbrev pub entry_before : ArpEntryOf HalfId → ArpEntryOf HalfId → Bool
entry_before a b = at_before (at_of a) (at_of b)

-- the entry before which so many others come
abbrev pub nth_entry : ℕ → List (ArpEntryOf HalfId) → Option (ArpEntryOf HalfId)
nth_entry place entries = find (λ e. count_by (λ f. entry_before f e) entries == place) entries

-- what a listing tells of it
abbrev pub row_of : ArpEntryOf HalfId → HalfId × Ip4 × Option Mac × ArpState
row_of e = (e.half, e.ip, e.mac, e.state)

-- ---- the places of the entries, in that order

-- whether each comes before all that follow it
abbrev pub are_listed : List At → Bool
are_listed [] = true
are_listed (a ∷ order) = list_all (at_before a) order && are_listed order

-- a place is listed before the first that it comes before
abbrev pub with_listed : At → List At → List At
with_listed a [] = a ∷ []
with_listed a (b ∷ order) = if at_before a b then a ∷ b ∷ order else b ∷ with_listed a order

-- an order has the places of the entries
pub record IsOrder (order : List At) (entries : List (ArpEntryOf HalfId)) : Type 0 where
  -- each comes before all that follow it
  pub listed : are_listed order ≡ true
  -- as many pass a test as there are entries whose places pass it
  pub same : (p : At → Bool) → count_by p order ≡ count_by (λ e. p (at_of e)) entries

-- what holds of the entries that are kept, and of their order
pub record IsIndexed (order : List At) (rows : List (KeptOf HalfId)) : Type 0 where
  -- no half has two entries for one address
  pub distinct : has_distinct_entries half_id_eq (entries_of rows) ≡ true
  -- their places stand in order
  pub ordered : IsOrder order (entries_of rows)
