-- Tables whose pairs have the homes and units that they had: halves are called as before, and all stands.
use Rattle.std.proofs.Common.{◌≡◌, ◌<◌, ◌^◌, ℕ, List, Option, Some, None, IfSome, refl, sym, ◌∙◌, subst}
use Rattle.std.specs.List.{AllByRecursion}
use Rattle.std.specs.Option.{option_map}
use Rattle.vn_types.specs.declared.interface.HalfId.{HalfId}
use Rattle.vn_types.specs.Entries.{find}
use Rattle.vn_types.specs.Paths.{Key, key_cmp}
use Rattle.vn_types.proofs.Options.{some_same}
use Rattle.vn_epair.specs.Halves.{Pair}
use Rattle.vn_epair.specs.Kept.{Name}
use Rattle.vn_jail.specs.declared.jail.Jail.{Jail}
use Rattle.vn_jail.specs.Tree.{path_at}
use Rattle.vn_vmove.specs.declared.tables.Tables.{Tables}
use Rattle.vn_vmove.specs.Parts.{lives, pair_at}
use Rattle.vn_vmove.specs.Sound.{IsSound}
use Rattle.vn_kernel.specs.Fields.{Fields}
use Rattle.vn_kernel.specs.Naming.{half_by, key_by, key_in, name_of}
use Rattle.vn_kernel.specs.Stands.{Stands}

-- a pair's home and unit, by numbers
abbrev pub called : Pair → Name
called pair = (pair.home, pair.unit)

-- each number has a pair of the same home and unit, or has none as before
abbrev pub SameNames : Tables → Tables → Type 0
SameNames old new = (number : ℕ) → option_map called (pair_at new number) ≡ option_map called (pair_at old number)

half-same : (jails : List Jail) (h : HalfId) (o p : Option Pair) → option_map called o ≡ option_map called p → half_by jails h o ≡ half_by jails h p
half-same jails h None None e = refl
half-same jails h None (Some y) e = cc
half-same jails h (Some x) None e = cc
half-same jails h (Some x) (Some y) e = let same = some_same (called x) (called y) e in λ i. record { home = path_at jails (same i).0; unit = (same i).1; side = h.side }

key-same : (jails : List Jail) (o p : Option Pair) → option_map called o ≡ option_map called p → option_map (key_by jails) o ≡ option_map (key_by jails) p
key-same jails None None e = refl
key-same jails None (Some y) e = cc
key-same jails (Some x) None e = cc
key-same jails (Some x) (Some y) e = let same = some_same (called x) (called y) e in λ i. Some (path_at jails (same i).0, (same i).1)

small-same : (o p : Option Pair) → option_map called o ≡ option_map called p → IfSome p (λ pair. pair.unit < 2 ^ 32) → IfSome o (λ pair. pair.unit < 2 ^ 32)
small-same None p e small = tt
small-same (Some x) None e small = cc
small-same (Some x) (Some y) e small = subst (λ (n : Name). n.1 < 2 ^ 32) (sym (some_same (called x) (called y) e)) small

module _ (f : Fields) (u : Tables) (same : SameNames f.tables u) where
  pub names-called : name_of (record f { tables = u }) ≡ name_of f
  unfolding name_of
  names-called = λ i h. half-same f.jails h (pair_at u h.pair) (pair_at f.tables h.pair) (same h.pair) i

  keys-called : key_in (record f { tables = u }) ≡ key_in f
  unfolding key_in
  keys-called = λ i number. key-same f.jails (pair_at u number) (pair_at f.tables number) (same number) i

  pub stands-called : Stands f → ((q : ℕ) → lives u q ≡ lives f.tables q) → IsSound u → Stands (record f { tables = u })
  stands-called s lives sound = record {
    linked = s.linked;
    tree = s.tree;
    living = λ q. lives q ∙ s.living q;
    sound = sound;
    listed = s.listed;
    logs_rise = s.logs_rise;
    read = s.read;
    keyed = λ number. subst (λ (key : ℕ → Option Key). IfSome (key number) (λ k. find key_cmp k f.units ≡ Some number)) (sym keys-called) (s.keyed number);
    paired = subst (λ (key : ℕ → Option Key). AllByRecursion (λ (e : Key × ℕ). key e.1 ≡ Some e.0) f.units) (sym keys-called) s.paired;
    units_rise = s.units_rise;
    small = λ number. small-same (pair_at u number) (pair_at f.tables number) (same number) (s.small number);
  }
