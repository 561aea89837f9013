-- What the world has at a path, by what the tables have at its number.
use Rattle.std.proofs.Common.{◌≡◌, ℕ, Bool, true, false, cond, List, [], ◌∷◌, map, Option, Some, None, IfSome, IsSome, refl, sym, ap, ap₂, ◌∙◌, subst}
use Rattle.std.specs.Prelude.{if◌then◌else◌}
use Rattle.std.specs.BTreeMap.{is_at}
use Rattle.std.specs.Cmp.{both_ways, Equal-is}
use Rattle.std.specs.List.{AllByRecursion, find as find_in, list_all, list_any}
use Rattle.std.specs.Map.{lookup}
use Rattle.std.specs.Option.{is_some, option_map}
use Rattle.std.specs.Ordering.{is_eq}
use Rattle.std.proofs.lemmas.Bool.{and_parts, false≢true}
use Rattle.vn_types.specs.declared.half.Half.{Half}
use Rattle.vn_types.specs.declared.interface.HalfId.{HalfId}
use Rattle.vn_types.specs.declared.interface.IfName.{IfName}
use Rattle.vn_types.specs.declared.interface.IfName.TheVariants.{Epair}
use Rattle.vn_types.specs.declared.interface.IfOf.{IfOf}
use Rattle.vn_types.specs.declared.interface.IfOf.TheVariants.{Lo0, Half as OfHalf}
use Rattle.vn_types.specs.declared.interface.Side.{Side}
use Rattle.vn_types.specs.Entries.{find}
use Rattle.vn_types.specs.Interfaces.{as_if, half_id_eq, if_same}
use Rattle.vn_types.specs.Paths.{Path, Key, key_cmp}
use Rattle.vn_types.proofs.ListMaps.{any_map_same}
use Rattle.vn_types.proofs.Options.{some_same}
use Rattle.vn_types.proofs.PathNames.{key_cmp-exact}
use Rattle.vn_rules.specs.Named.{if_name, ifname_eq, interface_named}
use Rattle.vn_rules.specs.Renamed.{renamed}
use Rattle.vn_rules.proofs.Kept.{IsIn, all_in}
use Rattle.vn_epair.specs.Halves.{Pair}
use Rattle.vn_epair.specs.Pairs.{end_of}
use Rattle.vn_ifnet.specs.declared.interfaces.Attached.{Attached}
use Rattle.vn_ifnet.specs.Stacks.{named, reserved_by}
use Rattle.vn_jail.specs.Tree.{at, is_alive, number_of, path_at}
use Rattle.vn_jail.proofs.Numbers.{within}
use Rattle.vn_vmove.specs.Parts.{held, lives, pair_at}
use Rattle.vn_vmove.specs.Sound.{IsHomedAs, half_name as name_by, is_rightly_named, name_in}
use Rattle.vn_vmove.proofs.Deciding.{if-refl, name-is}
use Rattle.vn_vmove.proofs.Listing.{what_of}
use Rattle.vn_vmove.proofs.Names.{found-stands, homed-reserved, listed-stands, stands-pair}
use Rattle.vn_cells.specs.world.Names.{half_name}
use Rattle.vn_cells.specs.world.World.{ifs_in}
use Rattle.vn_cells.specs.commands.Taken.{is_homed, standing}
use Rattle.vn_kernel.specs.Fields.{Fields}
use Rattle.vn_kernel.specs.Naming.{key_by, key_in, name_of, unit_by}
use Rattle.vn_kernel.specs.Stands.{Stands}
use Rattle.vn_kernel.specs.Worlds.{live_of, pair_of, world_of}
use Rattle.vn_kernel.proofs.Views.{live-here}
use Rattle.vn_kernel.proofs.moving.Faithful.{key-found, key-is}
use Rattle.vn_kernel.proofs.moving.Unmade.{pair-found}

module _ {f : Fields} (s : Stands f) where
  -- ---- what stands under a name

  -- a half that is found under a name stands there, and is of a pair
  pub found-pair : (q : ℕ) (name : IfName) (h : HalfId) → Some (OfHalf h) ≡ named name (held f.tables q)
      → (pair : Pair) × (pair_at f.tables h.pair ≡ Some pair) × ((end_of h.side pair).at ≡ q)
  found-pair q name h is = stands-pair q h.side (pair_at f.tables h.pair) (found-stands s.sound q name h (sym is)).0

  pub found-exists : (q : ℕ) (name : IfName) (h : HalfId) → Some (OfHalf h) ≡ named name (held f.tables q) → IsSome (pair_at f.tables h.pair)
  found-exists q name h is = ap is_some (found-pair q name h is).1

  -- a half that stands somewhere is of a pair
  pub listed-pair : (q : ℕ) (g : HalfId) → list_any (if_same half_id_eq (OfHalf g)) (what_of (held f.tables q).attached) ≡ true
      → (pair : Pair) × (pair_at f.tables g.pair ≡ Some pair)
  listed-pair q g is =
      let stands = stands-pair q g.side (pair_at f.tables g.pair) (sym (listed-stands s.sound q g) ∙ is) in
      (stands.0, stands.1)

  -- its name is that of its pair
  pub called-is : (g : HalfId) (pair : Pair) → pair_at f.tables g.pair ≡ Some pair → half_name (name_of f g) ≡ name_in f.tables g
  unfolding name_of
  called-is g pair is = (λ i. Epair (unit_by g.pair (is i)) g.side) ∙ sym (ap (λ o. name_by o g.side) is)

  -- whether what is attached has the name that the machine tells
  abbrev is_right : Attached → Bool
  is_right a = ifname_eq a.name (if_name half_name (as_if (name_of f) a.what))

  pub all_right : (q : ℕ) → list_all is_right (held f.tables q).attached ≡ true
  all_right q = all_in (is_rightly_named f.tables) is_right (held f.tables q).attached right (s.sound.names q)
    where
      right : (a : Attached) → IsIn a (held f.tables q).attached → is_rightly_named f.tables a ≡ true → is_right a ≡ true
      right a is_in own = by a.what refl ∙ own
        where
          by : (on : IfOf HalfId) → a.what ≡ on → ifname_eq a.name (if_name half_name (as_if (name_of f) a.what)) ≡ ifname_eq a.name (if_name (name_in f.tables) a.what)
          by Lo0 e = ap (λ on. ifname_eq a.name (if_name half_name (as_if (name_of f) on))) e ∙ sym (ap (λ on. ifname_eq a.name (if_name (name_in f.tables) on)) e)
          by (OfHalf g) e =
              let there = listed-pair q g
              (any_map_same (λ (x : Attached). x.what) (λ (x : Attached). if_same half_id_eq (OfHalf g) x.what) (if_same half_id_eq (OfHalf g)) (λ x. refl) (held f.tables q).attached
              ∙ is_in (λ (x : Attached). if_same half_id_eq (OfHalf g) x.what) (ap (if_same half_id_eq (OfHalf g)) e ∙ if-refl (OfHalf g))) in
              ap (λ on. ifname_eq a.name (if_name half_name (as_if (name_of f) on))) e ∙ ap (ifname_eq a.name) (called-is g there.0 there.1)
              ∙ sym (ap (λ on. ifname_eq a.name (if_name (name_in f.tables) on)) e)

  pub named-renamed : (name : IfName) (xs : List Attached) → list_all is_right xs ≡ true
      → interface_named half_name name (map (as_if (name_of f)) (what_of xs)) ≡ option_map (as_if (name_of f)) (option_map (λ (a : Attached). a.what) (find_in (λ (a : Attached). ifname_eq a.name name) xs))
  unfolding interface_named
  named-renamed name [] all = refl
  named-renamed name (a ∷ xs) all =
      let parts = and_parts (is_right a) (list_all is_right xs) all in
      ap (λ n. cond (ifname_eq n name) (Some (as_if (name_of f) a.what)) (find_in (λ on. ifname_eq (if_name half_name on) name) (map (as_if (name_of f)) (what_of xs))))
      (sym (name-is a.name (if_name half_name (as_if (name_of f) a.what)) parts.0))
      ∙ by (ifname_eq a.name name) (named-renamed name xs parts.1)
    where
      rest : Option (IfOf Half)
      rest = find_in (λ on. ifname_eq (if_name half_name on) name) (map (as_if (name_of f)) (what_of xs))

      more : Option Attached
      more = find_in (λ (a : Attached). ifname_eq a.name name) xs

      by : (b : Bool) → rest ≡ option_map (as_if (name_of f)) (option_map (λ (a : Attached). a.what) more)
          → cond b (Some (as_if (name_of f) a.what)) rest ≡ option_map (as_if (name_of f)) (option_map (λ (a : Attached). a.what) (cond b (Some a) more))
      by true e = refl
      by false e = e

  pub standing-alive : (p : Path) (name : IfName) → is_alive p f.jails ≡ true
      → standing (world_of f) p name ≡ option_map (as_if (name_of f)) (named name (held f.tables (number_of p f.jails)))
  unfolding renamed
  standing-alive p name alive =
      ap (λ o. interface_named half_name name (ifs_in o)) (live-here f s p)
      ∙ ap (λ b. interface_named half_name name (ifs_in (if b then Some (live_of f (number_of p f.jails)) else None))) alive
      ∙ named-renamed name (held f.tables (number_of p f.jails)).attached (all_right (number_of p f.jails))

  pub standing-dead : (p : Path) (name : IfName) → is_alive p f.jails ≡ false → standing (world_of f) p name ≡ None
  unfolding interface_named
  standing-dead p name dead =
      ap (λ o. interface_named half_name name (ifs_in o)) (live-here f s p)
      ∙ ap (λ b. interface_named half_name name (ifs_in (if b then Some (live_of f (number_of p f.jails)) else None))) dead

  -- ---- which pairs are homed at a path

  -- what is found under a home and a unit is a pair of these
  pub found-key : (k : Key) (n : ℕ) → find key_cmp k f.units ≡ Some n → key_in f n ≡ Some k
  unfolding find
  found-key k n is = by f.units s.paired is
    where
      by : (es : List (Key × ℕ)) → AllByRecursion (λ (e : Key × ℕ). key_in f e.1 ≡ Some e.0) es → lookup (is_at (key_cmp k)) es ≡ Some n → key_in f n ≡ Some k
      by [] all found = cc
      by (e ∷ es) all found = here (is_eq (key_cmp k e.0)) refl found (λ more. by es all.1 more)
        where
          here : (b : Bool) → is_eq (key_cmp k e.0) ≡ b → cond b (Some e.1) (lookup (is_at (key_cmp k)) es) ≡ Some n
              → (lookup (is_at (key_cmp k)) es ≡ Some n → key_in f n ≡ Some k) → key_in f n ≡ Some k
          here true same found more = ap (key_in f) (sym (some_same e.1 n found)) ∙ all.0 ∙ ap Some (sym (key_cmp-exact k e.0 ((Equal-is (key_cmp k e.0)).0 same)))
          here false other found more = more found

  -- a pair of a home and a unit
  pub record HomedPair (q unit : ℕ) : Type 0 where
    pub number : ℕ
    pub pair : Pair
    pub is : pair_at f.tables number ≡ Some pair
    pub home : pair.home ≡ q
    pub unit_is : pair.unit ≡ unit

  -- two living numbers of one path are one
  pub one-number : (q r : ℕ) → (at f.jails q).alive ≡ true → (at f.jails r).alive ≡ true → path_at f.jails q ≡ path_at f.jails r → q ≡ r
  one-number q r a b same = s.linked.distinct q r (within f.jails q a) (within f.jails r b) same

  pub home-alive : (n : ℕ) (pair : Pair) → pair_at f.tables n ≡ Some pair → (at f.jails pair.home).alive ≡ true
  home-alive n pair is = sym (s.living pair.home) ∙ subst (λ o. IfSome o (λ (pair : Pair). lives f.tables pair.home ≡ true)) is (s.sound.homes n)

  pub key-pair : (q unit n : ℕ) → (at f.jails q).alive ≡ true → key_in f n ≡ Some (path_at f.jails q, unit) → HomedPair q unit
  unfolding key_in
  key-pair q unit n alive is = by (pair_at f.tables n) refl is
    where
      by : (o : Option Pair) → pair_at f.tables n ≡ o → option_map (key_by f.jails) o ≡ Some (path_at f.jails q, unit) → HomedPair q unit
      by None at e = cc
      by (Some pair) at e =
          let same : key_by f.jails pair ≡ (path_at f.jails q, unit) = some_same (key_by f.jails pair) (path_at f.jails q, unit) e in
          record { number = n; pair = pair; is = at; home = one-number pair.home q (home-alive n pair at) alive (ap (λ (k : Key). k.0) same); unit_is = ap (λ (k : Key). k.1) same }

  pub homed-pair : (q unit : ℕ) → (at f.jails q).alive ≡ true → is_homed (world_of f) (path_at f.jails q) unit ≡ true → HomedPair q unit
  homed-pair q unit alive is = by (find key_cmp (path_at f.jails q, unit) f.units) refl (sym (ap is_some (pair-found f (path_at f.jails q, unit))) ∙ is)
    where
      by : (o : Option ℕ) → find key_cmp (path_at f.jails q, unit) f.units ≡ o → is_some (option_map (pair_of f (path_at f.jails q, unit)) o) ≡ true → HomedPair q unit
      by None found e = cc
      by (Some n) found e = key-pair q unit n alive (found-key (path_at f.jails q, unit) n found)

  pub pair-homed : (n : ℕ) (pair : Pair) → pair_at f.tables n ≡ Some pair → is_homed (world_of f) (path_at f.jails pair.home) pair.unit ≡ true
  pair-homed n pair is = ap is_some (pair-found f (key_by f.jails pair)) ∙ ap (λ o. is_some (option_map (pair_of f (key_by f.jails pair)) o)) (key-found s n (key_by f.jails pair) (key-is f n pair is))

  -- a name is reserved where a pair of its unit is homed
  pub reserved-is : (q unit : ℕ) (side : Side) → (at f.jails q).alive ≡ true
      → is_homed (world_of f) (path_at f.jails q) unit ≡ is_some (reserved_by (Epair unit side) (held f.tables q))
  reserved-is q unit side alive = both_ways _ _ to (λ e. from (reserved_by (Epair unit side) (held f.tables q)) e (s.sound.reserved q (Epair unit side)))
    where
      to : is_homed (world_of f) (path_at f.jails q) unit ≡ true → is_some (reserved_by (Epair unit side) (held f.tables q)) ≡ true
      to e =
          let h = homed-pair q unit alive e in
          ap is_some (homed-reserved s.sound q (Epair unit side) (record { pair = h.number; side = side })
          (subst (λ o. IsHomedAs q (Epair unit side) side o) (sym h.is) (h.home, ap (λ n. Epair n side) h.unit_is)))

      homed : (o : Option Pair) (g : HalfId) → pair_at f.tables g.pair ≡ o → IsHomedAs q (Epair unit side) g.side o → is_homed (world_of f) (path_at f.jails q) unit ≡ true
      homed None g is home = absurd home
      homed (Some pair) g is home =
          let unit_same : pair.unit ≡ unit = cc (home.1) in
          ap₂ (λ r n. is_homed (world_of f) (path_at f.jails r) n) (sym home.0) (sym unit_same) ∙ pair-homed g.pair pair is

      from : (o : Option HalfId) → is_some o ≡ true → IfSome o (λ g. IsHomedAs q (Epair unit side) g.side (pair_at f.tables g.pair)) → is_homed (world_of f) (path_at f.jails q) unit ≡ true
      from None e home = absurd (false≢true e)
      from (Some g) e home = homed (pair_at f.tables g.pair) g refl home
