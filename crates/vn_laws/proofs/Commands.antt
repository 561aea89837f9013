-- The commands that reach beyond their stack: the index of what is proved of their rules, one line a kind and property.
use Rattle.std.proofs.Common.{◌≡◌, ℕ, Bool, true, false, ◌||◌, not, List, None, Option, Some, refl, sym, subst, [], ◌∷◌}
use Rattle.std.specs.Prelude.{if◌then◌else◌, ◌+◌, ◌++◌, nat_le, nat_lt, length}
use Rattle.std.specs.List.{list_all}
use Rattle.std.proofs.lemmas.Bool.{and_parts, or_left, or_right, not-true}
use Rattle.vn_types.specs.declared.errno.Errno.TheVariants as errno
use Rattle.vn_types.specs.declared.interface.IfName.TheVariants.{Lo0, Epair}
use Rattle.vn_types.specs.Refusals.{first_refusal}
use Rattle.vn_rules.specs.Rules.{Common}
use Rattle.vn_cells.specs.declared.cell.Cells.{Cells}
use Rattle.vn_cells.specs.declared.cell.CellName.{CellName}
use Rattle.vn_cells.specs.declared.cell.CellName.TheVariants.{Stack as OfStack, Pair as OfPair}
use Rattle.vn_cells.specs.declared.command.Command.{Command}
use Rattle.vn_cells.specs.declared.command.Command.TheVariants as command
use Rattle.vn_cells.specs.declared.world.World.{World}
use Rattle.vn_cells.specs.world.Names.{Path, is_host, is_path, is_under}
use Rattle.vn_cells.specs.world.World.{is_alive}
use Rattle.vn_cells.specs.machine.Events.{is_named_path, is_valid_command}
use Rattle.vn_cells.specs.machine.Reach.{Reach, reach, Near, MakesJail, RemovesJail, MakesPair, DestroysPair, SetsMac, Lends, Reclaims, MovesLo0}
use Rattle.vn_cells.specs.commands.Pairs.{told_lowest}
use Rattle.vn_cells.specs.commands.Taken.{units, standing, is_unit_free, lowest_free}
use Rattle.vn_cells.specs.machine.Commands.{far_rule}
use Rattle.vn_cells.specs.sets.Sets.{in_set, in_stacks, pair_deciders, command_deciders}
use Rattle.vn_cells.specs.keeping.Sound.{IsSound}
use Rattle.vn_laws.specs.Relations.{Alike, Belongs, is_inside}
use Rattle.vn_laws.specs.Units.{IsLowestFree}
use Rattle.vn_laws.proofs.edits.Fine.{Fine, fine-none}
use Rattle.vn_laws.proofs.edits.Goes.{Goes, goes-none}
use Rattle.vn_laws.proofs.edits.Lived.{Lived, lived-same, lived-fewer, lived-born}
use Rattle.vn_laws.proofs.edits.Owned.{own_pair}
use Rattle.vn_laws.proofs.edits.Paths.{under-append, append-not_host}
use Rattle.vn_laws.proofs.edits.Tests.{not_false}
use Rattle.vn_laws.proofs.edits.Trees.{alive_tree}
use Rattle.vn_laws.proofs.edits.Twins.{twins-sound}
use Rattle.vn_laws.proofs.rule.Alike.{AlikeRules}
use Rattle.vn_laws.proofs.rule.Conditions.{none_of_two}
use Rattle.vn_laws.proofs.jails.Created.{may_create, created_alive, created_clock, created_told, created_readers}
use Rattle.vn_laws.proofs.jails.Kept.{sound-created, leaves-created, belongs-created}
use Rattle.vn_laws.proofs.jails.Removed.{is_removed}
use Rattle.vn_laws.proofs.jails.Goes.{goes-made_pair, goes-destroyed_by, goes-with_mac_on, goes-moved_on, goes-removed}
use Rattle.vn_laws.proofs.jails.Lived.{lived-removed}
use Rattle.vn_laws.proofs.jails.RemovedBelongs.{belongs-removed}
use Rattle.vn_laws.proofs.jails.RemovedAlike.{removal_alike}
use Rattle.vn_laws.proofs.jails.Alike.{jail_inside, alive_alike, creation_alike}
use Rattle.vn_laws.proofs.pairs.Lowest.{lowest-free}
use Rattle.vn_laws.proofs.pairs.Fine.{fine-made_pair, fine-destroyed_by}
use Rattle.vn_laws.proofs.pairs.Ether.{fine-with_mac_on}
use Rattle.vn_laws.proofs.pairs.Made.{made_tree}
use Rattle.vn_laws.proofs.moves.Trees.{tree-destroyed_by, tree-with_mac_on, tree-moved_on}
use Rattle.vn_laws.proofs.pairs.Belongs.{belongs-made_pair, belongs-destroyed_by, belongs-with_mac_on}
use Rattle.vn_laws.proofs.pairs.NamedAlike.{inside_pair, owns_in, owns_standing, standing_in, standing_alike, taken_in, taken_alike}
use Rattle.vn_laws.proofs.pairs.RulesAlike.{any_making_alike, making_alike, destruction_alike, mac_setting_alike}
use Rattle.vn_laws.proofs.moves.Fine.{fine-lending, fine-reclaiming, lo0_stays}
use Rattle.vn_laws.proofs.moves.Belongs.{belongs-moved_on}
use Rattle.vn_laws.proofs.moves.RulesAlike.{lending_alike, reclaiming_alike}

-- ---- what a valid command reaches

-- a jail that is removed is not host, and one to which a half is lent is below the issuer
abbrev pub Fits : Path → Reach → Type 0
Fits issuer (RemovesJail jail) = is_host jail ≡ false
Fits issuer (Lends unit side jail) = is_under jail issuer ≡ true
Fits issuer _ = Unit {0}

not_host : (issuer path : Path) → is_named_path issuer path ≡ true → is_host (issuer ++ path) ≡ false
unfolding is_named_path
not_host issuer path named =
    append-not_host issuer path (not-true (is_host path) (and_parts (is_path path) (not (is_host path)) (and_parts _ (nat_le (length issuer + length path) 8) named).0).1)

pub fits : (issuer : Path) (c : Command) → is_valid_command issuer c ≡ true → Fits issuer (reach issuer c)
unfolding is_valid_command reach
fits issuer (command.JailRemove path) valid = not_host issuer path valid
fits issuer (command.Destroy Lo0) valid = tt
fits issuer (command.Destroy (Epair unit side)) valid = tt
fits issuer (command.Vnet Lo0 path) valid = tt
fits issuer (command.Vnet (Epair unit side) path) valid = under-append issuer path
fits issuer (command.VnetBack Lo0 path) valid = tt
fits issuer (command.VnetBack (Epair unit side) path) valid = tt
fits issuer (command.Ether Lo0 mac) valid = tt
fits issuer (command.Ether (Epair unit side) mac) valid = tt
fits issuer _ valid = tt

-- ---- soundness

fine-lowest : {v : World} → IsSound v → (p : Path) → is_alive v p ≡ true → (o : Option ℕ) → lowest_free v p ≡ o
    → Fine v (told_lowest p o v).left
unfolding told_lowest
fine-lowest s p lives None e = fine-none s
fine-lowest {v} s p lives (Some unit) e =
    fine-made_pair s p unit lives (subst (IsLowestFree v p) e (lowest-free v p)).free

pub fine-far : {v : World} → IsSound v → (common : Common) (issuer : Path) → is_alive v issuer ≡ true → (r : Reach) → Fits issuer r
    → first_refusal (far_rule common issuer r v).refusals ≡ None → Fine v (far_rule common issuer r v).otherwise.left
unfolding far_rule
fine-far s common issuer lives Near fit none = fine-none s
fine-far {v} s common issuer lives (MakesJail p limit) fit none =
    let may = may_create common p limit v none in
    record { sound = sound-created s common.clock p limit may.dead may.parent_lives; leaves = leaves-created s common.clock p limit may.dead may.parent_lives }
fine-far {v} s common issuer lives (RemovesJail p) fit none = (is_removed common.clock p v s fit).fine
fine-far {v} s common issuer lives (MakesPair None) fit none = fine-lowest s issuer lives (lowest_free v issuer) refl
fine-far {v} s common issuer lives (MakesPair (Some unit)) fit none =
    let ok = none_of_two (not (nat_lt unit units)) (not (is_unit_free v issuer unit)) errno.Inval errno.Exist none in
    fine-made_pair s issuer unit lives (not_false (is_unit_free v issuer unit) ok.1)
fine-far {v} s common issuer lives (DestroysPair unit side) fit none = fine-destroyed_by s (standing v issuer (Epair unit side))
fine-far {v} s common issuer lives (SetsMac unit side mac) fit none = fine-with_mac_on s (standing v issuer (Epair unit side)) mac
fine-far s common issuer lives (Lends unit side jail) fit none = fine-lending s issuer (Epair unit side) jail fit none
fine-far s common issuer lives (Reclaims unit side jail) fit none = fine-reclaiming s issuer (Epair unit side) jail lives none
fine-far {v} s common issuer lives (MovesLo0 jail true) fit none = subst (Fine v) (sym (lo0_stays s issuer issuer jail)) (fine-none s)
fine-far {v} s common issuer lives (MovesLo0 jail false) fit none = subst (Fine v) (sym (lo0_stays s jail jail issuer)) (fine-none s)

-- ---- a set with the deciders

first_inside : (set : Cells) (p : Path) (cells : List CellName) → list_all (in_set set) (OfStack p ∷ cells) ≡ true → in_stacks set p ≡ true
unfolding in_set
first_inside set p cells all = (and_parts (in_stacks set p) (list_all (in_set set) cells) all).0

rest_inside : (set : Cells) (p : Path) (cells : List CellName) → list_all (in_set set) (OfStack p ∷ cells) ≡ true → list_all (in_set set) cells ≡ true
rest_inside set p cells all = (and_parts (in_set set (OfStack p)) (list_all (in_set set) cells) all).1

belongs-lowest : {set : Cells} {v : World} → Belongs set v → (p : Path) → in_stacks set p ≡ true → (o : Option ℕ) → Belongs set (told_lowest p o v).left
unfolding told_lowest
belongs-lowest b p inside None = b
belongs-lowest {set} b p inside (Some unit) = belongs-made_pair b (p, unit) (own_pair set (p, unit) inside)

pub belongs-far : {v : World} → IsSound v → (set : Cells) → Belongs set v → (common : Common) (issuer : Path) (r : Reach)
    → list_all (in_set set) (command_deciders issuer r) ≡ true → first_refusal (far_rule common issuer r v).refusals ≡ None
    → Belongs set (far_rule common issuer r v).otherwise.left
unfolding far_rule command_deciders
belongs-far s set b common issuer Near all none = b
belongs-far {v} s set b common issuer (MakesJail p limit) all none =
    let may = may_create common p limit v none in
    belongs-created s common.clock p limit may.dead may.parent_lives set b (jail_inside set issuer p all).own
belongs-far s set b common issuer (RemovesJail p) all none = belongs-removed b common.clock p
belongs-far {v} s set b common issuer (MakesPair None) all none = belongs-lowest b issuer (first_inside set issuer [] all) (lowest_free v issuer)
belongs-far s set b common issuer (MakesPair (Some unit)) all none = belongs-made_pair b (issuer, unit) (inside_pair set issuer unit all)
belongs-far {v} s set b common issuer (DestroysPair unit side) all none = belongs-destroyed_by b (standing v issuer (Epair unit side))
belongs-far {v} s set b common issuer (SetsMac unit side mac) all none = belongs-with_mac_on b (standing v issuer (Epair unit side)) mac
belongs-far {v} s set b common issuer (Lends unit side jail) all none =
    belongs-moved_on b (standing v issuer (Epair unit side)) issuer jail
    (owns_standing s b issuer unit side (rest_inside set jail (pair_deciders issuer unit) all))
belongs-far {v} s set b common issuer (Reclaims unit side jail) all none =
    belongs-moved_on b (standing v jail (Epair unit side)) jail issuer (owns_in b jail (Epair unit side) (first_inside set jail (pair_deciders issuer unit) all))
belongs-far {v} s set b common issuer (MovesLo0 jail true) all none = subst (Belongs set) (sym (lo0_stays s issuer issuer jail)) b
belongs-far {v} s set b common issuer (MovesLo0 jail false) all none = subst (Belongs set) (sym (lo0_stays s jail jail issuer)) b

stack_inside : (set : Cells) (p : Path) → in_stacks set p ≡ true → is_inside set p ≡ true
stack_inside set p own = or_left (in_stacks set p) (is_host p) own

-- who may make, change or move a pair is of the set, or host
pair_inside : (set : Cells) (issuer : Path) (unit : ℕ) → list_all (in_set set) (pair_deciders issuer unit) ≡ true
    → is_inside set issuer ≡ true
unfolding in_set
pair_inside set issuer unit all = by (is_host issuer) all
  where
    by : (b : Bool) → list_all (in_set set) (if b then OfPair issuer unit ∷ [] else OfStack issuer ∷ []) ≡ true
        → (in_stacks set issuer || b) ≡ true
    by true all = or_right (in_stacks set issuer) true refl
    by false all = or_left (in_stacks set issuer) false (and_parts _ true all).0

-- the issuer is of the set, or host
pub issuer_inside : (set : Cells) (issuer : Path) (r : Reach) → list_all (in_set set) (command_deciders issuer r) ≡ true
    → is_inside set issuer ≡ true
unfolding command_deciders in_set
issuer_inside set issuer Near all = stack_inside set issuer (and_parts _ true all).0
issuer_inside set issuer (MakesJail p limit) all = (jail_inside set issuer p all).by
issuer_inside set issuer (RemovesJail p) all = (jail_inside set issuer p all).by
issuer_inside set issuer (MakesPair None) all = stack_inside set issuer (and_parts _ true all).0
issuer_inside set issuer (MakesPair (Some unit)) all = pair_inside set issuer unit all
issuer_inside set issuer (DestroysPair unit side) all = pair_inside set issuer unit all
issuer_inside set issuer (SetsMac unit side mac) all = pair_inside set issuer unit all
issuer_inside set issuer (Lends unit side p) all = pair_inside set issuer unit (and_parts _ _ all).1
issuer_inside set issuer (Reclaims unit side p) all = pair_inside set issuer unit (and_parts _ _ all).1
issuer_inside set issuer (MovesLo0 p lent) all = stack_inside set issuer (and_parts _ true (and_parts _ _ all).1).0

pub alike-far : {set : Cells} {v w : World} → Alike set v w → Belongs set v → Belongs set w → IsSound v → IsSound w → (common : Common) (issuer : Path)
    (r : Reach) → Fits issuer r → list_all (in_set set) (command_deciders issuer r) ≡ true
    → AlikeRules set (far_rule common issuer r v) (far_rule common issuer r w)
unfolding far_rule command_deciders
alike-far a b c sv sw common issuer Near fit all = record { refusals = refl; outcome = refl; left = λ none. a }
alike-far {set} a b c sv sw common issuer (MakesJail p limit) fit all = creation_alike a sv sw common issuer p limit (jail_inside set issuer p all)
alike-far {set} a b c sv sw common issuer (RemovesJail p) fit all = removal_alike a b c sv sw common p (jail_inside set issuer p all).own fit
alike-far {set} a b c sv sw common issuer (MakesPair None) fit all = any_making_alike a sv sw issuer (first_inside set issuer [] all)
alike-far a b c sv sw common issuer (MakesPair (Some unit)) fit all = making_alike a sv sw issuer unit all
alike-far a b c sv sw common issuer (DestroysPair unit side) fit all = destruction_alike a sv sw issuer unit all side b
alike-far a b c sv sw common issuer (SetsMac unit side mac) fit all = mac_setting_alike a sv sw issuer unit all side mac
alike-far {set} a b c sv sw common issuer (Lends unit side jail) fit all =
    let there = first_inside set jail (pair_deciders issuer unit) all in
    let own = rest_inside set jail (pair_deciders issuer unit) all in
    lending_alike (twins-sound a sv sw) issuer (Epair unit side) jail (standing_alike a sv sw issuer unit own side)
    (alive_alike a sv sw jail (stack_inside set jail there)) (taken_in a jail there (Epair unit side) None)
alike-far {set} a b c sv sw common issuer (Reclaims unit side jail) fit all =
    let there = first_inside set jail (pair_deciders issuer unit) all in
    let own = rest_inside set jail (pair_deciders issuer unit) all in
    reclaiming_alike (twins-sound a sv sw) issuer (Epair unit side) jail (standing_in a jail there (Epair unit side))
    (alive_alike a sv sw jail (stack_inside set jail there)) (taken_alike a sv sw issuer unit own side)
alike-far {set} a b c sv sw common issuer (MovesLo0 jail true) fit all =
    let there = first_inside set jail (OfStack issuer ∷ []) all in
    let own = first_inside set issuer [] (rest_inside set jail (OfStack issuer ∷ []) all) in
    lending_alike (twins-sound a sv sw) issuer Lo0 jail (standing_in a issuer own Lo0)
    (alive_alike a sv sw jail (stack_inside set jail there)) (taken_in a jail there Lo0 None)
alike-far {set} a b c sv sw common issuer (MovesLo0 jail false) fit all =
    let there = first_inside set jail (OfStack issuer ∷ []) all in
    let own = first_inside set issuer [] (rest_inside set jail (OfStack issuer ∷ []) all) in
    reclaiming_alike (twins-sound a sv sw) issuer Lo0 jail (standing_in a jail there Lo0)
    (alive_alike a sv sw jail (stack_inside set jail there)) (taken_in a issuer own Lo0)

-- ---- who lives

lived-lowest : (v : World) (p : Path) (o : Option ℕ) → Lived v (told_lowest p o v).left
unfolding told_lowest
lived-lowest v p None = lived-same (λ q. refl)
lived-lowest v p (Some unit) = lived-same (alive_tree (made_tree p unit v))

pub lived-far : {v : World} → (common : Common) (issuer : Path) (r : Reach)
    → first_refusal (far_rule common issuer r v).refusals ≡ None → Lived v (far_rule common issuer r v).otherwise.left
unfolding far_rule
lived-far common issuer Near none = lived-same (λ q. refl)
lived-far {v} common issuer (MakesJail p limit) none =
    lived-born p (may_create common p limit v none).dead (created_alive common.clock p limit v)
lived-far {v} common issuer (RemovesJail p) none = lived-fewer (lived-removed common.clock p v)
lived-far {v} common issuer (MakesPair None) none = lived-lowest v issuer (lowest_free v issuer)
lived-far {v} common issuer (MakesPair (Some unit)) none = lived-same (alive_tree (made_tree issuer unit v))
lived-far {v} common issuer (DestroysPair unit side) none = lived-same (alive_tree (tree-destroyed_by v (standing v issuer (Epair unit side))))
lived-far {v} common issuer (SetsMac unit side mac) none = lived-same (alive_tree (tree-with_mac_on v (standing v issuer (Epair unit side)) mac))
lived-far {v} common issuer (Lends unit side jail) none = lived-same (alive_tree (tree-moved_on v (standing v issuer (Epair unit side)) issuer jail))
lived-far {v} common issuer (Reclaims unit side jail) none = lived-same (alive_tree (tree-moved_on v (standing v jail (Epair unit side)) jail issuer))
lived-far {v} common issuer (MovesLo0 jail true) none = lived-same (alive_tree (tree-moved_on v (standing v issuer Lo0) issuer jail))
lived-far {v} common issuer (MovesLo0 jail false) none = lived-same (alive_tree (tree-moved_on v (standing v jail Lo0) jail issuer))

-- ---- what all cells share, and transcripts go on

goes-lowest : (v : World) (p : Path) (o : Option ℕ) → Goes v (told_lowest p o v).left
unfolding told_lowest
goes-lowest v p None = goes-none v
goes-lowest v p (Some unit) = goes-made_pair v (p, unit)

pub goes-far : (common : Common) (issuer : Path) (r : Reach) (v : World) → Goes v (far_rule common issuer r v).otherwise.left
unfolding far_rule
goes-far common issuer Near v = goes-none v
goes-far common issuer (MakesJail p limit) v =
    record { clock = created_clock common.clock p limit v; told = created_told common.clock p limit v; readers = record { of = created_readers common.clock p limit v } }
goes-far common issuer (RemovesJail p) v = goes-removed common.clock p v
goes-far common issuer (MakesPair None) v = goes-lowest v issuer (lowest_free v issuer)
goes-far common issuer (MakesPair (Some unit)) v = goes-made_pair v (issuer, unit)
goes-far common issuer (DestroysPair unit side) v = goes-destroyed_by v (standing v issuer (Epair unit side))
goes-far common issuer (SetsMac unit side mac) v = goes-with_mac_on v (standing v issuer (Epair unit side)) mac
goes-far common issuer (Lends unit side jail) v = goes-moved_on v (standing v issuer (Epair unit side)) issuer jail
goes-far common issuer (Reclaims unit side jail) v = goes-moved_on v (standing v jail (Epair unit side)) jail issuer
goes-far common issuer (MovesLo0 jail true) v = goes-moved_on v (standing v issuer Lo0) issuer jail
goes-far common issuer (MovesLo0 jail false) v = goes-moved_on v (standing v jail Lo0) jail issuer
