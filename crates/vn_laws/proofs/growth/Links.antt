-- Pairs that are made, moved and destroyed arm no timer and count nothing.
use Rattle.std.proofs.Common.{ℕ, Bool, Option, Some, None}
use Rattle.vn_types.specs.declared.address.Mac.{Mac}
use Rattle.vn_types.specs.declared.half.Half.{Half}
use Rattle.vn_types.specs.declared.interface.IfOf.TheVariants.{Lo0, Half as OfHalf}
use Rattle.vn_cells.specs.declared.world.Pair.{Pair}
use Rattle.vn_cells.specs.declared.world.World.{World}
use Rattle.vn_cells.specs.world.Names.{Path, Key, If, key_of}
use Rattle.vn_cells.specs.world.World.{pair_at}
use Rattle.vn_cells.specs.commands.Pairs.{new_pair, attached, detached, attach, detach, made_pair, unmade, destroyed_pair, destroyed_by, with_mac_on, told_lowest}
use Rattle.vn_cells.specs.commands.Moves.{moved, moved_on}
use Rattle.vn_laws.proofs.growth.Edits.{Counted, counted-on_parts, counted-add_pair, counted-drop_pair, counted-each_pair}
use Rattle.vn_laws.proofs.growth.Numbers.{Numbers, Falls}
use Rattle.vn_laws.proofs.growth.Parts.{attached-less, detached-less}

module _ {test : Numbers → Bool} (falls : Falls test) where
  counted-attach : {v : World} → Counted test v → (h : Half) (p : Path) → Counted test (attach h p v)
  counted-attach c h p = counted-on_parts falls c p (attached h) (attached-less h)

  counted-detach : {v : World} → Counted test v → (h : Half) (p : Path) → Counted test (detach h p v)
  counted-detach c h p = counted-on_parts falls c p (detached h) (detached-less h)

  pub counted-made_pair : {v : World} → Counted test v → (k : Key) → Counted test (made_pair k v)
  unfolding made_pair
  counted-made_pair c k = counted-attach (counted-attach (counted-add_pair c k (new_pair k)) _ k.0) _ k.0

  pub counted-unmade : {v : World} → Counted test v → (k : Key) (o : Option Pair) → Counted test (unmade k o v)
  unfolding unmade
  counted-unmade c k None = c
  counted-unmade c k (Some pair) = counted-drop_pair (counted-detach (counted-detach c _ pair.a.at) _ pair.b.at) k

  pub counted-destroyed_pair : {v : World} → Counted test v → (k : Key) → Counted test (destroyed_pair k v)
  counted-destroyed_pair {v} c k = counted-unmade c k (pair_at v k)

  pub counted-destroyed_by : {v : World} → Counted test v → (on : Option If) → Counted test (destroyed_by on v)
  unfolding destroyed_by
  counted-destroyed_by c None = c
  counted-destroyed_by c (Some Lo0) = c
  counted-destroyed_by c (Some (OfHalf h)) = counted-destroyed_pair c (key_of h)

  pub counted-with_mac_on : {v : World} → Counted test v → (on : Option If) (mac : Mac) → Counted test (with_mac_on on mac v)
  unfolding with_mac_on
  counted-with_mac_on c None mac = c
  counted-with_mac_on c (Some Lo0) mac = c
  counted-with_mac_on c (Some (OfHalf h)) mac = counted-each_pair c _

  pub counted-moved : {v : World} → Counted test v → (h : Half) (from to : Path) → Counted test (moved h from to v)
  unfolding moved
  counted-moved c h from to = counted-attach (counted-detach (counted-each_pair c _) h from) h to

  pub counted-moved_on : {v : World} → Counted test v → (on : Option If) (from to : Path) → Counted test (moved_on on from to v)
  unfolding moved_on
  counted-moved_on c None from to = c
  counted-moved_on c (Some Lo0) from to = c
  counted-moved_on c (Some (OfHalf h)) from to = counted-moved c h from to

  pub counted-lowest : {v : World} → Counted test v → (p : Path) (o : Option ℕ) → Counted test (told_lowest p o v).left
  unfolding told_lowest
  counted-lowest c p None = c
  counted-lowest c p (Some unit) = counted-made_pair c (p, unit)
