-- What stands in each cell after a jail is made.
use Rattle.std.proofs.Common.{◌≡◌, ℕ, ◌+◌, ◌≤◌, length, length-append, map, arith, Bool, true, false, ◌||◌, not, [], ◌∷◌, Some, None, refl, sym, ap, ◌∙◌, subst}
use Rattle.std.specs.Prelude.{if◌then◌else◌}
use Rattle.std.specs.Option.{is_some}
use Rattle.std.specs.List.{list_any}
use Rattle.std.specs.List.Sorted.{IsStrictlySortedBy}
use Rattle.std.specs.Map.{keys_of}
use Rattle.vn_types.specs.declared.errno.Errno.TheVariants as errno
use Rattle.vn_types.specs.Refusals.{first_refusal}
use Rattle.vn_rules.specs.Construction.{constructor_rows}
use Rattle.vn_rules.specs.Rules.{Common}
use Rattle.vn_cells.specs.declared.world.Stack.{Stack}
use Rattle.vn_cells.specs.declared.world.World.{World}
use Rattle.vn_cells.specs.world.Names.{Path, Key, key_cmp, path_eq, above, parent}
use Rattle.vn_cells.specs.world.World.{stack_at, pair_at, is_alive, live_map}
use Rattle.vn_cells.specs.commands.Jails.{recount, recount_above, construct, init_entry, created, any_full, creation}
use Rattle.vn_laws.proofs.edits.Cells.{stack_at-edit_stack, stack_at-each_stack, pair_at-edit_stack, pair_at-each_stack, ordered-edit_stack, ordered-each_stack, pairs-edit_stack, pairs-each_stack, clock-edit_stack, clock-each_stack, none_lives, Ordered, OrderedPairs}
use Rattle.vn_laws.proofs.jails.Counted.{recounted}

abbrev pub more : ℕ → ℕ
more n = n + 1

-- a jail that was just constructed
abbrev pub fresh : ℕ → ℕ → Stack → Stack
fresh clock limit s = construct clock (Some (record { limit = limit; living = 0 })) s

-- the stack of a path after a jail is made
abbrev pub made : ℕ → Path → ℕ → Path → Stack → Stack
made clock p limit q s = if path_eq q p then fresh clock limit (recount_above p more q s) else recount_above p more q s

module _ (clock : ℕ) (p : Path) (limit : ℕ) (v : World) where
  pub created_stack : (q : Path) → stack_at (created clock p limit v) q ≡ made clock p limit q (stack_at v q)
  unfolding created
  created_stack q =
      stack_at-edit_stack p (fresh clock limit) _ q
      ∙ ap (λ s. if path_eq q p then fresh clock limit s else s)
      (stack_at-each_stack (recount_above p more) v q (none_lives (list_any (path_eq q) (above p)) (recount more)))

  pub created_pair : (k : Key) → pair_at (created clock p limit v) k ≡ pair_at v k
  unfolding created
  created_pair k = pair_at-edit_stack p _ _ k ∙ pair_at-each_stack _ v k

  pub created_clock : (created clock p limit v).clock ≡ v.clock
  unfolding created
  created_clock = clock-edit_stack p _ _ ∙ clock-each_stack _ v

  pub created_ordered : Ordered v → Ordered (created clock p limit v)
  unfolding created
  created_ordered s = ordered-edit_stack p _ _ (ordered-each_stack _ v s)

  pub created_pairs : OrderedPairs v → OrderedPairs (created clock p limit v)
  unfolding created
  created_pairs s =
      subst (λ es. IsStrictlySortedBy key_cmp (keys_of es)) (sym (pairs-edit_stack p _ _ ∙ pairs-each_stack _ v)) s

  pub created_alive : (q : Path) → is_alive (created clock p limit v) q ≡ (path_eq q p || is_alive v q)
  created_alive q = ap (λ (s : Stack). is_some s.live) (created_stack q) ∙ by (path_eq q p)
    where
      by : (b : Bool) → is_some (if b then fresh clock limit (recount_above p more q (stack_at v q)) else recount_above p more q (stack_at v q)).live
          ≡ (b || is_alive v q)
      by true = refl
      by false = recounted is_some (λ live c. refl) (list_any (path_eq q) (above p)) more (stack_at v q)

  -- readers stay
  pub created_readers : (q : Path) → (stack_at (created clock p limit v) q).readers ≡ (stack_at v q).readers
  created_readers q = ap (λ (s : Stack). s.readers) (created_stack q) ∙ by (path_eq q p) (list_any (path_eq q) (above p))
    where
      by : (b c : Bool) → (if b then fresh clock limit (if c then live_map (recount more) (stack_at v q) else stack_at v q)
          else (if c then live_map (recount more) (stack_at v q) else stack_at v q)).readers ≡ (stack_at v q).readers
      by true true = refl
      by true false = refl
      by false true = refl
      by false false = refl

  -- transcripts go on
  pub created_told : (q : Path) → length (stack_at v q).entries ≤ length (stack_at (created clock p limit v) q).entries
  created_told q =
      subst (λ (s : Stack). length (stack_at v q).entries ≤ length s.entries) (sym (created_stack q))
      (by (path_eq q p) (list_any (path_eq q) (above p)))
    where
      by : (b c : Bool) → length (stack_at v q).entries
          ≤ length (if b then fresh clock limit (if c then live_map (recount more) (stack_at v q) else stack_at v q) else (if c then live_map (recount more) (stack_at v q) else stack_at v q)).entries
      by true true = let n = length-append (stack_at v q).entries (map (init_entry clock) constructor_rows) in omega arith
      by true false = let n = length-append (stack_at v q).entries (map (init_entry clock) constructor_rows) in omega arith
      by false true = omega arith
      by false false = omega arith

-- the conditions of a creation that is not refused
pub record MayCreate (w : World) (p : Path) : Type 0 where
  pub parent_lives : is_alive w (parent p) ≡ true
  pub dead : is_alive w p ≡ false
  pub roomy : any_full w (above p) ≡ false

none_holds : (a b c : Bool) → first_refusal ((not a, errno.NoEnt) ∷ (b, errno.Exist) ∷ (c, errno.Perm) ∷ []) ≡ None
    → (a ≡ true) × (b ≡ false) × (c ≡ false)
none_holds true false false e = (refl, refl, refl)
none_holds false b c e = cc
none_holds true true c e = cc
none_holds true false true e = cc

pub may_create : (common : Common) (p : Path) (limit : ℕ) (w : World)
    → first_refusal (creation common p limit w).refusals ≡ None → MayCreate w p
may_create common p limit w none =
    let parts = none_holds (is_alive w (parent p)) (is_alive w p) (any_full w (above p)) none in
    record { parent_lives = parts.0; dead = parts.1; roomy = parts.2 }
