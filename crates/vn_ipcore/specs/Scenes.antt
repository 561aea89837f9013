-- The scene of one stack in the tables of all, and how it goes back.
use Rattle.std.specs.Prelude.{◌≡◌, ℕ, ◌+◌, ◌<◌, ◌^◌, ◌==◌, true, List, map, Option, Some, None, option_map, if◌then◌else◌}
use Rattle.std.specs.List.{filter_map}
use Rattle.vn_types.specs.declared.interface.HalfId.{HalfId}
use Rattle.vn_types.specs.declared.interface.IfOf.{IfOf}
use Rattle.vn_types.specs.declared.interface.Side.TheVariants.{A, B}
use Rattle.vn_types.specs.Interfaces.{half_id_eq}
use Rattle.vn_rules.specs.declared.parts.PartsOf.{PartsOf}
use Rattle.vn_rules.specs.Interfaces.{if_half}
use Rattle.vn_rules.specs.Scenes.{LinkOf, SceneOf, link_of, no_link}
use Rattle.vn_packets.specs.declared.tally.Tally.{Tally}
use Rattle.vn_epair.specs.Halves.{End, Pair}
use Rattle.vn_epair.specs.Pairs.{end_of}
use Rattle.vn_vmove.specs.declared.tables.Tables.{Tables}
use Rattle.vn_vmove.specs.Moves.{half_on}
use Rattle.vn_vmove.specs.Nets.{Becomes, Net, net_of, on_stack}
use Rattle.vn_vmove.specs.Parts.{pair_at, parts}
use Rattle.vn_vmove.specs.Sound.{IsSound, stands_at}
use Rattle.vn_vmove.specs.Tallies.{drops_of}

-- ---- the scene of a stack

-- an end as the stack sees it where it stands
abbrev pub link_with : HalfId → End → LinkOf HalfId
link_with h end = record { half = h; mac = end.mac; up = end.up; sent = end.sent }

-- a half of a pair, where there is one
abbrev pub link_by : HalfId → Option Pair → LinkOf HalfId
link_by h None = no_link h
link_by h (Some pair) = link_with h (end_of h.side pair)

-- the halves among interfaces
abbrev pub halves_of : List (IfOf HalfId) → List HalfId
halves_of ifs = filter_map if_half ifs

-- the tables of a stack, and a link for each half that stands there
unfoldable pub scene_of : Tables → ℕ → SceneOf HalfId
scene_of t q = record {
  parts = parts t q;
  links = map (λ (h : HalfId). link_by h (pair_at t h.pair)) (halves_of (parts t q).interfaces);
}

-- ---- and back

-- the tables that are left, with the interfaces that stand there
abbrev pub parts_after : SceneOf HalfId → PartsOf HalfId → PartsOf HalfId
parts_after s p = record s.parts { interfaces = p.interfaces }

-- an end, with what its link says
abbrev pub with_link : LinkOf HalfId → End → End
with_link l end = record { at = end.at; mac = l.mac; up = l.up; sent = l.sent }

-- an end is changed where it stands in the stack
abbrev pub end_after : ℕ → SceneOf HalfId → HalfId → End → End
end_after q s h end = if end.at == q then with_link (link_of half_id_eq h s) end else end

-- both ends of a pair
abbrev pub pair_after : ℕ → SceneOf HalfId → ℕ → Pair → Pair
pair_after q s n pair = record pair {
  a = end_after q s (half_on A n) pair.a;
  b = end_after q s (half_on B n) pair.b;
}

-- the scene of a stack and of its halves goes back; who stands where is as it was
unfoldable pub placed : ℕ → SceneOf HalfId → Net → Net
placed q s net = on_stack q (parts_after s)
    (record net { pairs = λ n. option_map (pair_after q s n) (net.pairs n) })

-- a call in one stack: its scene becomes another, and all else is as it was
pub record Replaces (q : ℕ) (s : SceneOf HalfId) (old new : Tables) : Type 0 where
  -- the tables of all stacks, and all pairs
  pub becomes : Becomes (placed q s (net_of old)) old new
  -- what is seen of the stack then
  pub here : scene_of new q ≡ s
  -- and all is sound
  pub sound : IsSound new

-- ---- what is counted

-- each counter of a stack can count so many more
abbrev pub HasRoomFor : ℕ → Tables → ℕ → Type 0
HasRoomFor n t q = (what : Tally) → drops_of what (parts t q).drops + n < 2 ^ 64

-- each counter of a stack is below the bound that the number of events keeps
abbrev pub HasRoom : Tables → ℕ → Type 0
HasRoom t q = (what : Tally) → drops_of what (parts t q).drops < 2 ^ 63

-- ---- what a call needs

-- all is sound, and the half stands in the stack
pub record StandsIn (sid : ℕ) (half : HalfId) (t : Tables) : Type 0 where
  -- the tables of all stacks
  pub sound : IsSound t
  -- its end of the pair is there
  pub stands : stands_at sid half.side (pair_at t half.pair) ≡ true

-- a half can send so many frames
pub record CanSend (n sid : ℕ) (half : HalfId) (t : Tables) : Type 0 where
  -- it stands in the stack
  pub here : StandsIn sid half t
  -- each counter can count as many more
  pub room : HasRoomFor n t sid

-- an ARP packet can come to a half
pub record IsReady (sid : ℕ) (half : HalfId) (now : ℕ) (t : Tables) : Type 0 where
  -- the half stands in the stack
  pub here : StandsIn sid half t
  -- each counter is below the bound
  pub counters : HasRoom t sid
  -- so is the clock
  pub clock : now < 2 ^ 63
  -- and the number of timers that were armed
  pub armed : (parts t sid).timers.armed < 2 ^ 63
