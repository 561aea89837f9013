-- Host alone, just constructed: the machine's opening world.
use Rattle.std.proofs.Common.{◌≡◌, ◌<◌, ◌+◌, ◌^◌, ℕ, zero, suc, Bool, true, false, ◌&&◌, ◌||◌, List, [], ◌∷◌, length, map, Some, None, IfSome, refl, sym, ap, ◌∙◌, subst, arith}
use Rattle.std.specs.Prelude.{if◌then◌else◌, is_some}
use Rattle.std.specs.Option.{option_map}
use Rattle.std.specs.List.Sorted.{IsStrictlySortedBy}
use Rattle.std.proofs.lemmas.Bool.{ne_eqb}
use Rattle.vn_types.specs.Entries.{each, find, put}
use Rattle.vn_types.specs.Paths.{Path, Key, key_cmp, path_cmp, path_eq}
use Rattle.vn_types.specs.PathOrder.{path_eq-Decides}
use Rattle.vn_jail.specs.declared.jail.Jail.{Jail}
use Rattle.vn_jail.specs.Kept.{IsLinked, IsTree}
use Rattle.vn_jail.specs.Tree.{at, host_jail, is_alive, is_known, number_of}
use Rattle.vn_vmove.specs.declared.tables.Tables.{Tables}
use Rattle.vn_vmove.specs.Parts.{lives, pair_at, parts}
use Rattle.vn_cells.specs.declared.transcript.Entry.{Entry}
use Rattle.vn_cells.specs.commands.Jails.{init_entry, rows}
use Rattle.vn_cells.specs.machine.Step.{opening}
use Rattle.vn_epair.specs.Halves.{Pair}
use Rattle.vn_epair.specs.Pairs.{of}
use Rattle.vn_kernel.specs.Construction.{Constructs}
use Rattle.vn_kernel.specs.Fields.{Fields}
use Rattle.vn_kernel.specs.Naming.{key_by, key_in}
use Rattle.vn_kernel.specs.Stands.{IsOpen, Stands}
use Rattle.vn_kernel.specs.Worlds.{children_at, logged, world_of}
use Rattle.vn_kernel.specs.Readers.{OpenReader}
use Rattle.vn_kernel.proofs.Created.{constructed-stack}
use Rattle.vn_kernel.proofs.Views.{own-listed}

first-number : (p : Path) (jail : Jail) (jails : List Jail) → path_eq p jail.path ≡ true → number_of p (jail ∷ jails) ≡ 0
unfolding number_of
first-number p jail jails is = ap (λ b. if b then 0 else number_of p jails + 1) is

host-alive : is_alive [] (host_jail ∷ []) ≡ true
host-alive = ap (λ b. (b && true) || false) ((path_eq-Decides [] []).1 refl)

host-number : number_of [] (host_jail ∷ []) ≡ 0
host-number = first-number [] host_jail [] ((path_eq-Decides [] []).1 refl)

only-host : (p : Path) → is_known p (host_jail ∷ []) ≡ true → p ≡ []
only-host p known = by (path_eq p []) refl known
  where
    by : (b : Bool) → path_eq p [] ≡ b → (b || false) ≡ true → p ≡ []
    by true e is = (path_eq-Decides p []).0 e
    by false e is = cc

first-put : (entries : List Entry) → logged [] entries [] ≡ ([], entries) ∷ []
unfolding logged find put
first-put entries = refl

-- the fields of a kernel that has just begun, with what the constructors of host left in the tables
module _ (t u : Tables) (none : (q : ℕ) → lives t q ≡ false) (unpaired : t.pairs ≡ []) (c : Constructs 0 t u)
    (linked : IsLinked (host_jail ∷ [])) (tree : IsTree (host_jail ∷ [])) where
  abbrev begun : Fields
  begun = record { clock = 0; jails = host_jail ∷ []; logs = ([], map (init_entry 0) rows) ∷ []; readers = []; retired = 0; units = []; tables = u }

  no-pairs : u.pairs ≡ []
  no-pairs = c.pairs ∙ unpaired

  no-pair : (n : ℕ) → pair_at u n ≡ None
  no-pair n = ap (λ rows. of rows n) no-pairs

  opened-world : world_of begun ≡ opening
  unfolding world_of each find
  opened-world i = record {
    clock = 0;
    stacks = ([], constructed-stack begun [] 0 None [] None host-alive (ap (children_at (host_jail ∷ [])) host-number) (ap (parts u) host-number ∙ c.here) i) ∷ [];
    pairs = [];
  }

  living : (n : ℕ) → lives u n ≡ (at (host_jail ∷ []) n).alive
  living zero = c.living 0
  living (suc n) = c.living (suc n) ∙ ap (λ b. if b then true else lives t (suc n)) (ne_eqb (suc n) 0 (λ e. omega arith)) ∙ none (suc n)

  opened-stands : Stands begun
  unfolding IsStrictlySortedBy key_in find
  opened-stands = record {
    linked = linked;
    tree = tree;
    living = living;
    sound = c.sound;
    listed = λ p known. ap (λ q. is_some (find path_cmp q (([], map (init_entry 0) rows) ∷ []))) (only-host p known) ∙ ap (λ logs. is_some (find path_cmp [] logs)) (sym (first-put (map (init_entry 0) rows))) ∙ own-listed [] (map (init_entry 0) rows) [];
    logs_rise = (tt, tt);
    read = record { listed = λ p none. refl; rise = tt };
    keyed = λ n. subst (λ o. IfSome (option_map (key_by (host_jail ∷ [])) o) (λ k. find key_cmp k [] ≡ Some n)) (sym (no-pair n)) tt;
    paired = tt;
    units_rise = tt;
    small = λ n. subst (λ o. IfSome o (λ (pair : Pair). pair.unit < 2 ^ 32)) (sym (no-pair n)) tt;
  }

  pub opened : IsOpen begun
  opened = record {
    world = opened-world;
    stands = opened-stands;
    few = record { jails = omega arith; pairs = omega (arith, ap length no-pairs) };
  }

  -- the same of fields that are these
  pub opened-as : (jails : List Jail) (logs before : List (Path × List Entry)) (host : Path) (readers : List (Path × List OpenReader)) (units : List (Key × ℕ)) → jails ≡ host_jail ∷ []
      → logs ≡ logged host (map (init_entry 0) rows) before → host ≡ [] → before ≡ [] → readers ≡ [] → units ≡ []
      → IsOpen (record { clock = 0; jails = jails; logs = logs; readers = readers; retired = 0; units = units; tables = u })
  opened-as jails logs before host readers units jailed noted at none unread unpaired =
      let logs_so : logs ≡ ([], map (init_entry 0) rows) ∷ [] = noted ∙ (λ i. logged (at i) (map (init_entry 0) rows) (none i)) ∙ first-put (map (init_entry 0) rows) in
      subst IsOpen (λ i. record { clock = 0; jails = sym jailed i; logs = sym logs_so i; readers = sym unread i; retired = 0; units = sym unpaired i; tables = u }) opened
