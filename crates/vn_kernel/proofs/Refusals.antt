-- Why a jail is not made: the same over the jails and in the world.
use Rattle.std.proofs.Common.{◌≡◌, ◌≢◌, ℕ, Bool, true, false, ◌&&◌, ◌||◌, not, List, [], ◌∷◌, Some, None, refl, sym, ap, ap₂, ◌∙◌}
use Rattle.std.specs.Prelude.{if◌then◌else◌}
use Rattle.std.specs.List.{list_any}
use Rattle.std.proofs.lemmas.Bool.{and_parts, false≢true, ne_eqb, or_left, or_right}
use Rattle.vn_types.specs.Paths.{Path, above, from, is_host, is_under, parent, path_eq}
use Rattle.vn_types.specs.PathOrder.{path_eq-Decides}
use Rattle.vn_types.specs.Refusals.{first_refusal}
use Rattle.vn_types.specs.declared.errno.Errno.TheVariants as errno
use Rattle.vn_types.proofs.Ancestors.{above-from, any-above, passes-above}
use Rattle.vn_types.proofs.UnderPaths.{under-refl}
use Rattle.vn_rules.specs.Rules.{Common}
use Rattle.vn_jail.specs.Tree.{any_full as any_full_of, at, create_refusal, is_alive, is_at, is_full as is_full_of, number_of, path_at}
use Rattle.vn_jail.proofs.Numbers.{tested}
use Rattle.vn_cells.specs.commands.Jails.{any_full, creation, has_no_room, is_full}
use Rattle.vn_cells.specs.world.World.{stack_at}
use Rattle.vn_kernel.specs.Fields.{Fields}
use Rattle.vn_kernel.specs.Stands.{Stands}
use Rattle.vn_kernel.specs.Worlds.{live_of, world_of}
use Rattle.vn_kernel.proofs.Jails.{alive-numbered, labelled}
use Rattle.vn_kernel.proofs.Views.{alive-is, live-here}

module _ (f : Fields) (s : Stands f) where
  -- a living path but host is not numbered 0
  not-first : (q : Path) → is_alive q f.jails ≡ true → is_host q ≡ false → number_of q f.jails ≢ 0
  not-first q alive label e =
      labelled q label (sym (alive-numbered f.jails q alive).1 ∙ ap (path_at f.jails) e ∙ s.linked.host)

  -- whether a living jail is full
  full-is : (q : Path) → is_alive q f.jails ≡ true → is_host q ≡ false
      → is_full (stack_at (world_of f) q).live ≡ list_any (λ jail. is_at q jail && is_full_of jail) f.jails
  full-is q alive label =
      ap is_full (live-here f s q)
      ∙ ap (λ b. is_full (if b then Some (live_of f (number_of q f.jails)) else None)) alive
      ∙ ap (λ b. has_no_room (if b then None else Some (record { limit = (at f.jails (number_of q f.jails)).limit; living = (at f.jails (number_of q f.jails)).living })))
      (ne_eqb (number_of q f.jails) 0 (not-first q alive label))
      ∙ (let known = alive-numbered f.jails q alive in sym (tested f.jails s.linked q is_full_of (number_of q f.jails) known.0 known.1))

  -- and one of some living jails
  full-any : (ps : List Path) → ((q : Path) → list_any (path_eq q) ps ≡ true → (is_alive q f.jails ≡ true) × (is_host q ≡ false))
      → any_full (world_of f) ps ≡ any_full_of f.jails ps
  unfolding any_full
  full-any [] each = refl
  full-any (q ∷ ps) each =
      let here = each q (or_left (path_eq q q) (list_any (path_eq q) ps) ((path_eq-Decides q q).1 refl)) in
      ap₂ (λ a b. a || b) (full-is q here.0 here.1) (full-any ps (λ r is. each r (or_right (path_eq r q) (list_any (path_eq r) ps) is)))

  -- what is above a path is alive where the parent is
  module _ (p : Path) (up : is_alive (parent p) f.jails ≡ true) where
    from-under : (q r : Path) → list_any (path_eq q) (from r) ≡ true → is_under r q ≡ true
    from-under q [] is = absurd (false≢true is)
    from-under q (l ∷ r) is = by (path_eq q (l ∷ r)) refl is
      where
        by : (b : Bool) → path_eq q (l ∷ r) ≡ b → (b || list_any (path_eq q) (above (l ∷ r))) ≡ true → is_under (l ∷ r) q ≡ true
        by true e is = ap (is_under (l ∷ r)) ((path_eq-Decides q (l ∷ r)).0 e) ∙ under-refl (l ∷ r)
        by false e is =
            let both = (and_parts (is_under (l ∷ r) q && not (is_host q)) (not (path_eq q (l ∷ r))) (sym (any-above (l ∷ r) q) ∙ is)).0 in
            (and_parts (is_under (l ∷ r) q) (not (is_host q)) both).0

    above-alive : (q : Path) → list_any (path_eq q) (above p) ≡ true → (is_alive q f.jails ≡ true) × (is_host q ≡ false)
    above-alive q is = (
      passes-above (λ r. is_alive r f.jails) s.tree.rooted (parent p) q up (from-under q (parent p) (ap (list_any (path_eq q)) (sym (above-from p)) ∙ is)),
      no_host (is_under p q) (is_host q) (not (path_eq q p)) (sym (any-above p q) ∙ is),
    )
      where
        no_host : (a b c : Bool) → (a && not b && c) ≡ true → b ≡ false
        no_host a false c is = refl
        no_host true true c is = absurd (false≢true is)
        no_host false true c is = absurd (false≢true is)

  -- the refusals of a creation
  pub refusal-is : (common : Common) (p : Path) (limit : ℕ) → first_refusal (creation common p limit (world_of f)).refusals ≡ create_refusal p f.jails
  refusal-is common p limit =
      ap₂ (λ up here. first_refusal ((not up, errno.NoEnt) ∷ (here, errno.Exist) ∷ (any_full (world_of f) (above p), errno.Perm) ∷ [])) (alive-is f s (parent p)) (alive-is f s p)
      ∙ by (is_alive (parent p) f.jails) refl
    where
      by : (b : Bool) → is_alive (parent p) f.jails ≡ b
          → first_refusal ((not b, errno.NoEnt) ∷ (is_alive p f.jails, errno.Exist) ∷ (any_full (world_of f) (above p), errno.Perm) ∷ [])
          ≡ first_refusal ((not b, errno.NoEnt) ∷ (is_alive p f.jails, errno.Exist) ∷ (any_full_of f.jails (above p), errno.Perm) ∷ [])
      by false e = refl
      by true e = ap (λ full. first_refusal ((false, errno.NoEnt) ∷ (is_alive p f.jails, errno.Exist) ∷ (full, errno.Perm) ∷ [])) (full-any (above p) (above-alive p e))
