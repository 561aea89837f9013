-- What vnet and -vnet refuse by numbers is what they refuse in the world.
use Rattle.std.proofs.Common.{◌≡◌, ℕ, Bool, true, false, ◌&&◌, ◌||◌, not, [], ◌∷◌, Option, Some, None, IfSome, refl, sym, ap, ap₂, ◌∙◌, subst}
use Rattle.std.specs.Cmp.{both_ways}
use Rattle.std.specs.Option.{is_none, is_some, option_and_then, option_map}
use Rattle.vn_types.specs.declared.errno.Errno.{Errno}
use Rattle.vn_types.specs.declared.errno.Errno.TheVariants as errno
use Rattle.vn_types.specs.declared.half.Half.{Half}
use Rattle.vn_types.specs.declared.interface.HalfId.{HalfId}
use Rattle.vn_types.specs.declared.interface.IfName.{IfName}
use Rattle.vn_types.specs.declared.interface.IfName.TheVariants.{Lo0 as NameOfLo0, Epair}
use Rattle.vn_types.specs.declared.interface.IfOf.{IfOf}
use Rattle.vn_types.specs.declared.interface.IfOf.TheVariants.{Lo0, Half as OfHalf}
use Rattle.vn_types.specs.declared.interface.Sid.{Sid}
use Rattle.vn_types.specs.Interfaces.{as_if, half_id_eq}
use Rattle.vn_types.specs.PathOrder.{path_eq-Decides}
use Rattle.vn_types.specs.Paths.{Path, path_eq}
use Rattle.vn_types.specs.Refusals.{first_refusal}
use Rattle.vn_types.proofs.InterfaceNames.{half_id_eq-Decides, if_same-as_if}
use Rattle.vn_types.proofs.Options.{none_some, some_same}
use Rattle.vn_rules.specs.Interfaces.{if_half}
use Rattle.vn_rules.specs.Named.{is_lo0}
use Rattle.vn_epair.specs.Halves.{Pair}
use Rattle.vn_epair.specs.Pairs.{end_of}
use Rattle.vn_ifnet.specs.Stacks.{is_another as is_another_half, is_taken as is_taken_in, named, reserved_by}
use Rattle.vn_jail.specs.Tree.{at, is_alive, number_of, path_at}
use Rattle.vn_jail.proofs.Numbers.{is-alive}
use Rattle.vn_vmove.specs.Moves.{is_kept_from, is_other_if, lend_refusal, may_have as may_have_half, reclaim_refusal, standing as standing_in}
use Rattle.vn_vmove.specs.Parts.{held, pair_at}
use Rattle.vn_vmove.specs.Sound.{IsHomedAs, half_name as name_by, name_in, stands_at}
use Rattle.vn_vmove.proofs.Names.{found-stands, homed-reserved, stands-pair}
use Rattle.vn_cells.specs.world.Names.{half_eq}
use Rattle.vn_cells.specs.world.World.{is_alive as is_alive_at}
use Rattle.vn_cells.specs.commands.Moves.{lending, reclaiming}
use Rattle.vn_cells.specs.commands.Taken.{is_another, is_native, is_reserved, is_taken, may_have, standing}
use Rattle.vn_kernel.specs.Fields.{Fields}
use Rattle.vn_kernel.specs.Naming.{home_by, name_of}
use Rattle.vn_kernel.specs.Stands.{Stands}
use Rattle.vn_kernel.specs.Worlds.{world_of}
use Rattle.vn_kernel.proofs.Jails.{alive-numbered}
use Rattle.vn_kernel.proofs.Views.{alive-is}
use Rattle.vn_kernel.proofs.moving.Faithful.{name-kept}
use Rattle.vn_kernel.proofs.moving.Found.{home-alive, one-number, reserved-is, standing-alive, standing-dead}

-- ---- an interface under its other name

module _ (r : HalfId → Half) where
  none-renamed : (on : Option (IfOf HalfId)) → is_none (option_map (as_if r) on) ≡ is_none on
  none-renamed None = refl
  none-renamed (Some on) = refl

  lo0-renamed : (on : Option (IfOf HalfId)) → is_lo0 (option_map (as_if r) on) ≡ is_lo0 on
  lo0-renamed None = refl
  lo0-renamed (Some Lo0) = refl
  lo0-renamed (Some (OfHalf h)) = refl

  another-renamed : ((a b : HalfId) → half_eq (r a) (r b) ≡ half_id_eq a b) → (on but : Option (IfOf HalfId))
      → is_another (option_map (as_if r) on) (option_map (as_if r) but) ≡ is_other_if on but
  another-renamed kept None but = refl
  another-renamed kept (Some on) None = refl
  another-renamed kept (Some on) (Some but) = ap not (if_same-as_if r half_id_eq half_eq kept on but)

module _ {f : Fields} (s : Stands f) where
  -- the interface in the stack of a number, as the machine calls it
  abbrev called : Option (IfOf HalfId) → Option (IfOf Half)
  called on = option_map (as_if (name_of f)) on

  -- ---- names that are taken

  -- lo0's name is reserved for no half
  lo0-free : (q : ℕ) → reserved_by NameOfLo0 (held f.tables q) ≡ None
  lo0-free q = by (reserved_by NameOfLo0 (held f.tables q)) (s.sound.reserved q NameOfLo0)
    where
      homed : (o : Option Pair) (g : HalfId) → IsHomedAs q NameOfLo0 g.side o → ⊥
      homed None g home = home
      homed (Some pair) g home = cc (home.1)

      by : (o : Option HalfId) → IfSome o (λ g. IsHomedAs q NameOfLo0 g.side (pair_at f.tables g.pair)) → o ≡ None
      by None home = refl
      by (Some g) home = absurd (homed (pair_at f.tables g.pair) g home)

  module _ (q : ℕ) (alive : (at f.jails q).alive ≡ true) where
    -- a name is that of a pair homed there where it is reserved
    pub reserved-same : (name : IfName) → is_reserved (world_of f) (path_at f.jails q) name ≡ is_some (reserved_by name (held f.tables q))
    unfolding is_reserved
    reserved-same NameOfLo0 = sym (ap is_some (lo0-free q))
    reserved-same (Epair unit side) = reserved-is s q unit side alive

    -- a half that has the name is homed there where the name is reserved for it
    home-same : (name : IfName) (h g : HalfId) → reserved_by name (held f.tables q) ≡ Some g → (p : ℕ) → stands_at p h.side (pair_at f.tables h.pair) ≡ true → name_in f.tables h ≡ name
        → path_eq (name_of f h).home (path_at f.jails q) ≡ half_id_eq g h
    unfolding name_of
    home-same name h g is p there called =
        ap (λ o. path_eq (home_by f.jails o) (path_at f.jails q)) at.1 ∙ both_ways _ _ to from
      where
        at : (pair : Pair) × (pair_at f.tables h.pair ≡ Some pair) × ((end_of h.side pair).at ≡ p)
        at = stands-pair p h.side (pair_at f.tables h.pair) there

        to : path_eq (path_at f.jails at.0.home) (path_at f.jails q) ≡ true → half_id_eq g h ≡ true
        to e =
            let home : at.0.home ≡ q = one-number s at.0.home q (home-alive s h.pair at.0 at.1) alive ((path_eq-Decides (path_at f.jails at.0.home) (path_at f.jails q)).0 e) in
            (half_id_eq-Decides g h).1 (some_same g h (sym is ∙ homed-reserved s.sound q name h
            (subst (λ o. IsHomedAs q name h.side o) (sym at.1) (home, ap (λ o. name_by o h.side) (sym at.1) ∙ called))))

        from : half_id_eq g h ≡ true → path_eq (path_at f.jails at.0.home) (path_at f.jails q) ≡ true
        from e =
            let homed = subst (λ o. IfSome o (λ g. IsHomedAs q name g.side (pair_at f.tables g.pair))) is (s.sound.reserved q name) in
            let own = subst (λ (k : HalfId). IsHomedAs q name k.side (pair_at f.tables k.pair)) ((half_id_eq-Decides g h).0 e) homed in
            let pair = subst (λ o. IsHomedAs q name h.side o) at.1 own in
            (path_eq-Decides (path_at f.jails at.0.home) (path_at f.jails q)).1 (ap (path_at f.jails) pair.0)

    -- the name is kept from another half
    native-same : (name : IfName) (on : Option (IfOf HalfId)) → ((h : HalfId) → on ≡ Some (OfHalf h) → (stands : ℕ) × (stands_at stands h.side (pair_at f.tables h.pair) ≡ true) × (name_in f.tables h ≡ name))
        → (is_reserved (world_of f) (path_at f.jails q) name && not (is_native (path_at f.jails q) (called on))) ≡ is_another_half (reserved_by name (held f.tables q)) (option_and_then if_half on)
    native-same name on stands = ap (λ b. b && not (is_native (path_at f.jails q) (called on))) (reserved-same name) ∙ by on stands (reserved_by name (held f.tables q)) refl
      where
        by : (on : Option (IfOf HalfId)) → ((h : HalfId) → on ≡ Some (OfHalf h) → (p : ℕ) × (stands_at p h.side (pair_at f.tables h.pair) ≡ true) × (name_in f.tables h ≡ name))
            → (o : Option HalfId) → reserved_by name (held f.tables q) ≡ o
            → (is_some o && not (is_native (path_at f.jails q) (called on))) ≡ is_another_half o (option_and_then if_half on)
        by None stands None is = refl
        by None stands (Some g) is = refl
        by (Some Lo0) stands None is = refl
        by (Some Lo0) stands (Some g) is = refl
        by (Some (OfHalf h)) stands None is = refl
        by (Some (OfHalf h)) stands (Some g) is = let at = stands h refl in ap not (home-same name h g is at.0 at.1 at.2)

  -- ---- at paths

  module _ (p : Path) (lives : is_alive p f.jails ≡ true) where
    pub number-lives : (at f.jails (number_of p f.jails)).alive ≡ true
    number-lives = let known = alive-numbered f.jails p lives in sym (is-alive f.jails s.linked p (number_of p f.jails) known.0 known.1) ∙ lives

    pub number-path : path_at f.jails (number_of p f.jails) ≡ p
    number-path = (alive-numbered f.jails p lives).1

    -- a name is taken by another interface than one that has it elsewhere
    pub taken-same : (name : IfName) (on : Option (IfOf HalfId))
        → ((h : HalfId) → on ≡ Some (OfHalf h) → (stands : ℕ) × (stands_at stands h.side (pair_at f.tables h.pair) ≡ true) × (name_in f.tables h ≡ name))
        → is_taken (world_of f) p name (called on) ≡ is_kept_from on name (held f.tables (number_of p f.jails))
    unfolding is_taken
    taken-same name on stands =
        ap (λ o. is_another o (called on) || (is_reserved (world_of f) p name && not (is_native p (called on)))) (standing-alive s p name lives)
        ∙ ap₂ ◌||◌ (another-renamed (name_of f) (name-kept s) (named name (held f.tables (number_of p f.jails))) on)
        (ap (λ q. is_reserved (world_of f) q name && not (is_native q (called on))) (sym number-path) ∙ native-same (number_of p f.jails) number-lives name on stands)

  -- by what is kept from none
  taken-none : (name : IfName) (q : ℕ) → is_kept_from None name (held f.tables q) ≡ is_taken_in name None (held f.tables q)
  taken-none name q = by (named name (held f.tables q))
    where
      by : (o : Option (IfOf HalfId)) → (is_other_if o None || is_another_half (reserved_by name (held f.tables q)) None) ≡ (is_some o || is_another_half (reserved_by name (held f.tables q)) None)
      by None = refl
      by (Some on) = refl

  -- ---- in their order

  -- the number of a path, where it lives
  abbrev pub IsNumberOf : Path → Option Sid → Type 0
  IsNumberOf p None = is_alive p f.jails ≡ false
  IsNumberOf p (Some sid) = (is_alive p f.jails ≡ true) × (sid.0 ≡ number_of p f.jails)

  pub standing-same : (p : Path) (sid : Option Sid) (name : IfName) → IsNumberOf p sid → standing (world_of f) p name ≡ called (standing_in f.tables name sid)
  standing-same p None name dead = standing-dead s p name dead
  standing-same p (Some sid) name at = standing-alive s p name at.0 ∙ ap (λ q. called (named name (held f.tables q))) (sym at.1)

  abbrev lend_by : Bool → Bool → Bool → Bool → Option Errno
  lend_by none lo0 dead taken = first_refusal ((none, errno.NxIo) ∷ (lo0, errno.Perm) ∷ (dead, errno.NxIo) ∷ (taken, errno.Exist) ∷ [])

  pub lend-refused : (issuer to : Path) (name : IfName) (from : Sid) (target : Option Sid) → IsNumberOf issuer (Some from) → IsNumberOf to target
      → first_refusal (lending issuer name to (world_of f)).refusals ≡ lend_refusal f.tables from name target
  lend-refused issuer to name from target at there =
      ap (λ on. lend_by (is_none on) (is_lo0 on) (not (is_alive_at (world_of f) to)) (is_taken (world_of f) to name None)) (standing-same issuer (Some from) name at)
      ∙ ap₂ (λ a b. lend_by a b (not (is_alive_at (world_of f) to)) (is_taken (world_of f) to name None)) (none-renamed (name_of f) on) (lo0-renamed (name_of f) on)
      ∙ ap (λ b. lend_by (is_none on) (is_lo0 on) (not b) (is_taken (world_of f) to name None)) (alive-is f s to) ∙ by target there
    where
      on : Option (IfOf HalfId)
      on = named name (held f.tables from.0)

      by : (target : Option Sid) → IsNumberOf to target → lend_by (is_none on) (is_lo0 on) (not (is_alive to f.jails)) (is_taken (world_of f) to name None) ≡ lend_refusal f.tables from name target
      by None dead = ap (λ b. lend_by (is_none on) (is_lo0 on) (not b) (is_taken (world_of f) to name None)) dead
      by (Some sid) at =
          ap₂ (λ b c. lend_by (is_none on) (is_lo0 on) (not b) c) at.0
          (taken-same to at.0 name None (λ h e. absurd (none_some (OfHalf h) e)) ∙ taken-none name (number_of to f.jails) ∙ ap (λ q. is_taken_in name None (held f.tables q)) (sym at.1))

  abbrev reclaim_by : Bool → Bool → Bool → Bool → Option Errno
  reclaim_by dead none kept taken = first_refusal ((dead, errno.NxIo) ∷ (none, errno.NxIo) ∷ (kept, errno.Perm) ∷ (taken, errno.Exist) ∷ [])

  pub reclaim-refused : (issuer from : Path) (name : IfName) (to : Sid) (source : Option Sid) (allows : Bool) → IsNumberOf issuer (Some to) → IsNumberOf from source
      → may_have issuer (called (standing_in f.tables name source)) ≡ may_have_half allows (standing_in f.tables name source)
      → first_refusal (reclaiming issuer name from (world_of f)).refusals ≡ reclaim_refusal f.tables to source name allows
  reclaim-refused issuer from name to source allows at there same =
      ap₂ (λ b on. reclaim_by (not b) (is_none on) (not (may_have issuer on)) (is_taken (world_of f) issuer name on)) (alive-is f s from) (standing-same from source name there)
      ∙ by source there same
    where
      by : (source : Option Sid) → IsNumberOf from source → may_have issuer (called (standing_in f.tables name source)) ≡ may_have_half allows (standing_in f.tables name source)
          → reclaim_by (not (is_alive from f.jails)) (is_none (called (standing_in f.tables name source))) (not (may_have issuer (called (standing_in f.tables name source))))
          (is_taken (world_of f) issuer name (called (standing_in f.tables name source))) ≡ reclaim_refusal f.tables to source name allows
      by None dead same = ap (λ b. reclaim_by (not b) true true (is_taken (world_of f) issuer name None)) dead
      by (Some sid) lives same =
          let on = named name (held f.tables sid.0) in
          ap₂ (λ b c. reclaim_by (not b) c (not (may_have issuer (called on))) (is_taken (world_of f) issuer name (called on))) lives.0 (none-renamed (name_of f) on)
          ∙ ap₂ (λ b c. reclaim_by false (is_none on) (not b) c) same
          (taken-same issuer at.0 name on (λ h e. let stands = found-stands s.sound sid.0 name h e in (sid.0, stands.0, stands.1)) ∙ ap (λ q. is_kept_from on name (held f.tables q)) (sym at.1))
