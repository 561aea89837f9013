-- How far the destruction of a stack reaches: no stack changes but that one, and those above it.
use Rattle.std.proofs.Common.{◌≡◌, ◌≢◌, ℕ, Bool, true, false, cond, ◌&&◌, ◌||◌, not, List, [], ◌∷◌, None, refl, sym, ap, ◌∙◌, arith}
use Rattle.std.specs.Prelude.{if◌then◌else◌, filter}
use Rattle.std.specs.List.{list_any, list_all}
use Rattle.std.proofs.lemmas.Bool.{and_parts, and_from, or_right, true≢false}
use Rattle.std.proofs.lemmas.Slice.Eq.{bytes_eq-Decides}
use Rattle.vn_types.specs.declared.half.Half.{Half}
use Rattle.vn_types.proofs.Ancestors.{any-above}
use Rattle.vn_cells.specs.declared.world.Stack.{Stack}
use Rattle.vn_cells.specs.declared.world.World.{World}
use Rattle.vn_cells.specs.world.Names.{Path, path_eq, is_host, is_under, is_below, above, half_eq, halves_of, has_half}
use Rattle.vn_cells.specs.world.World.{stack_at, is_alive, ifs_of, live_map}
use Rattle.vn_cells.specs.commands.Jails.{rows, recount, recount_above, one_less}
use Rattle.vn_cells.specs.commands.Moves.{moved}
use Rattle.vn_cells.specs.commands.Removal.{sent_home, lent_here, run_down, torn_down, destroyed}
use Rattle.vn_cells.specs.keeping.Sound.{IsSound}
use Rattle.vn_laws.proofs.edits.Cells.{apart, other_edit}
use Rattle.vn_laws.proofs.edits.Names.{half_eq-refl}
use Rattle.vn_laws.proofs.edits.NamesOnce.{listed_stands}
use Rattle.vn_types.proofs.UnderPaths.{under-refl}
use Rattle.vn_laws.proofs.pairs.Listed.{has_half-has}
use Rattle.vn_laws.proofs.pairs.Named.{standing_under}
use Rattle.vn_laws.proofs.moves.Far.{moved-changes}
use Rattle.vn_laws.proofs.jails.Destroyed.{own_rows}
use Rattle.vn_laws.proofs.jails.Killed.{killed_stack}

-- ---- paths

-- what is under a path is neither above nor below what that path is not
pub under_neither : (p q r : Path) → is_under q p ≡ false → is_under p q ≡ false → is_under r p ≡ true → is_under r q ≡ false
unfolding is_under
under_neither [] q r below above under = absurd (true≢false (sym (under-all q) ∙ below))
  where
    under-all : (q : Path) → is_under q [] ≡ true
    under-all [] = refl
    under-all (l ∷ q) = refl
under_neither (x ∷ p) [] r below above under = absurd (true≢false above)
under_neither (x ∷ p) (y ∷ q) [] below above under = refl
under_neither (x ∷ p) (y ∷ q) (l ∷ r) below above under =
    grind (arith, bytes_eq-Decides x l, bytes_eq-Decides y l, bytes_eq-Decides x y, bytes_eq-Decides y x, under_neither p q r, below, above, under)

-- a path that is not above another, as one that is
not_above : (p q r : Path) → is_under p q ≡ false → is_under p r ≡ true → q ≢ r
not_above p q r out under e = true≢false (sym under ∙ ap (is_under p) (sym e) ∙ out)

-- ---- halves go home

sent_reach : (p : Path) (hs : List Half) (v : World) → list_all (λ h. is_under p h.home) hs ≡ true
    → (q : Path) → is_under p q ≡ false → stack_at (sent_home p hs v) q ≡ stack_at v q
unfolding sent_home
sent_reach p [] v all q out = refl
sent_reach p (h ∷ hs) v all q out =
    let parts = and_parts _ _ all in
    sent_reach p hs (moved h p h.home v) parts.1 q out
    ∙ (moved-changes v h p h.home).stacks q (not_above p q p out (under-refl p)) (not_above p q h.home out parts.0)

-- a test that each member passes is passed by those that pass another
members_pass : (P f : Half → Bool) (hs : List Half) → ((h : Half) → has_half hs h ≡ true → P h ≡ true) → list_all P (filter f hs) ≡ true
members_pass P f [] all = refl
members_pass P f (h ∷ hs) all =
    by (f h) (all h (ap (λ b. b || has_half hs h) (half_eq-refl h)))
    (members_pass P f hs (λ g m. all g (or_right (half_eq g h) (has_half hs g) m)))
  where
    by : (b : Bool) → P h ≡ true → list_all P (filter f hs) ≡ true → list_all P (cond b (h ∷ filter f hs) (filter f hs)) ≡ true
    by true own ih = and_from _ _ own ih
    by false own ih = ih

-- ---- a stack is destroyed

module _ (p : Path) (clock : ℕ) (v : World) (s : IsSound v) (alive : is_alive v p ≡ true)
    (lowest : (r : Path) → is_alive v r ≡ true → is_below r p ≡ false) where
  -- the halves that are lent to it are homed above it
  lent_above : list_all (λ h. is_under p h.home) (lent_here v p) ≡ true
  lent_above =
      members_pass (λ h. is_under p h.home) (λ h. not (path_eq h.home p)) (halves_of (ifs_of (stack_at v p)))
      (λ h m. standing_under s p h (listed_stands s p h (sym (has_half-has h (ifs_of (stack_at v p))) ∙ m)))

  pub destroyed_reach : (q : Path) → is_under p q ≡ false → stack_at (destroyed clock p v) q ≡ stack_at v q
  unfolding torn_down run_down
  destroyed_reach q out =
      let elsewhere : path_eq q p ≡ false = apart q p (not_above p q p out (under-refl p)) in
      killed_stack p (torn_down clock p rows v) q
      ∙ ap (λ b. if b then record (stack_at (torn_down clock p rows v) q) { live = None } else recount_above p one_less q (stack_at (torn_down clock p rows v) q)) elsewhere
      ∙ uncounted (stack_at (torn_down clock p rows v) q) (any-above p q ∙ ap (λ b. b && not (is_host q) && not (path_eq q p)) out)
      ∙ (own_rows p clock v s alive lowest).stacks q elsewhere
      ∙ other_edit p _ (sent_home p (lent_here v p) v) q (not_above p q p out (under-refl p))
      ∙ sent_reach p (lent_here v p) v lent_above q out
    where
      uncounted : (t : Stack) → list_any (path_eq q) (above p) ≡ false → recount_above p one_less q t ≡ t
      uncounted t e = ap (λ b. if b then live_map (recount one_less) t else t) e
