-- A path's ancestors, one after another, and what they count.
use Rattle.std.proofs.Common.{◌≡◌, ◌≢◌, ◌<◌, ◌≤◌, ◌∷◌, ℕ, Bool, true, false, ◌||◌, List, [], length, map, get_or, refl, sym, ap, ◌∙◌, subst, arith, ⊎_elim}
use Rattle.std.specs.Prelude.{if◌then◌else◌, slice_set}
use Rattle.std.specs.List.{list_any}
use Rattle.std.proofs.lemmas.Bool.{cases_eq, cases_lt, false_from_ne_true, false≢true}
use Rattle.std.proofs.lemmas.List.{same_lists, get_or-map, get_or-set_same, get_or-set_other, length-map, length-set}
use Rattle.vn_types.specs.Paths.{Path, path_eq, above, from}
use Rattle.vn_types.specs.PathOrder.{path_eq-Decides}
use Rattle.vn_types.proofs.Ancestors.{from-below, above-from, not-above, shorter}
use Rattle.vn_jail.specs.declared.jail.Jail.{Jail}
use Rattle.vn_jail.specs.Tree.{at, path_at, recount, dead_jail, any_full, is_full}
use Rattle.vn_jail.specs.Kept.{IsLinked}
use Rattle.vn_jail.proofs.Numbers.{tested}

no-label : (p : Path) → (0 < length p → ⊥) → p ≡ []
no-label [] none = refl
no-label (l ∷ p) none = absurd (none (omega arith))

module _ (jails : List Jail) (linked : IsLinked jails) (n : ℕ) (within : n < length jails) where
  pub has-label : 0 < n → 0 < length (path_at jails n)
  has-label some = ⊎_elim (λ (lt : 0 < length (path_at jails n)). lt)
      (λ (le : length (path_at jails n) ≤ 0). absurd (by (linked.distinct n 0 within linked.some (no-label (path_at jails n) (λ lt. omega arith) ∙ sym linked.host)))) (cases_lt 0 (length (path_at jails n)))
    where
      by : n ≡ 0 → ⊥
      by e = omega arith

  pub from-host : n ≡ 0 → from (path_at jails n) ≡ []
  from-host e = ap (λ k. from (path_at jails k)) e ∙ ap from linked.host

  -- from the parent's number on upwards there are those above
  pub over : 0 < n → from (path_at jails (at jails n).parent) ≡ above (path_at jails n)
  over some = ap from (linked.linked n some within) ∙ sym (above-from (path_at jails n))

  -- from a number on upwards there are its path and those from its parent's number on
  pub from-parent : 0 < n → from (path_at jails n) ≡ path_at jails n ∷ from (path_at jails (at jails n).parent)
  from-parent some = from-below (path_at jails n) (has-label some) ∙ ap (λ ps. path_at jails n ∷ ps) (sym (over some))

  pub smaller : 0 < n → length (path_at jails (at jails n).parent) < length (path_at jails n)
  smaller some = let s = shorter (path_at jails n) (has-label some) in let l = ap length (linked.linked n some within) in omega arith

  -- the parent's number is one, and its path is shorter
  pub upwards : 0 < n → (jail : Jail) → jail ≡ at jails n → (length (path_at jails jail.parent) < length (path_at jails n)) × (jail.parent < length jails)
  upwards some jail is = subst (λ (j : Jail). (length (path_at jails j.parent) < length (path_at jails n)) × (j.parent < length jails)) (sym is) (smaller some, linked.inside n some within)

  pub full-parent : 0 < n → any_full jails (from (path_at jails n)) ≡ (is_full (at jails n) || any_full jails (from (path_at jails (at jails n).parent)))
  full-parent some = ap (any_full jails) (from-parent some) ∙ ap (λ b. b || any_full jails (from (path_at jails (at jails n).parent))) (tested jails linked (path_at jails n) is_full n within refl)

  not-from : 0 < n → list_any (path_eq (path_at jails n)) (from (path_at jails (at jails n).parent)) ≡ false
  not-from some = ap (list_any (path_eq (path_at jails n))) (over some) ∙ not-above (path_at jails n)

-- nothing is counted above host
recount-none : (f : ℕ → ℕ) (jails : List Jail) → map (recount f []) jails ≡ jails
recount-none f [] = refl
recount-none f (jail ∷ jails) = ap (λ js. jail ∷ js) (recount-none f jails)

pub counted-host : (f : ℕ → ℕ) (jails : List Jail) (linked : IsLinked jails) (n : ℕ) → n < length jails → n ≡ 0 → jails ≡ map (recount f (from (path_at jails n))) jails
counted-host f jails linked n within e = sym (ap (λ ps. map (recount f ps) jails) (from-host jails linked n within e) ∙ recount-none f jails)

-- what is counted from the parent on, and then in the jail
module _ (f : ℕ → ℕ) (jails : List Jail) (linked : IsLinked jails) (n : ℕ) (within : n < length jails) (some : 0 < n) where
  abbrev rest : List Path
  rest = from (path_at jails (at jails n).parent)

  abbrev told : List Jail
  told = map (recount f rest) jails

  -- the jail itself has counted nothing yet
  pub untold : (d : Jail) → get_or (map (recount f (from (path_at jails (at jails n).parent))) jails) n d ≡ at jails n
  untold d = get_or-map (recount f rest) jails n (dead_jail [] 0) d within ∙ by (list_any (path_eq (path_at jails n)) rest) (not-from jails linked n within some)
    where
      by : (b : Bool) → b ≡ false → (if b then record (at jails n) { living = f (at jails n).living } else at jails n) ≡ at jails n
      by true e = absurd (false≢true (sym e))
      by false e = refl

  pub counted-more : slice_set (map (recount f (from (path_at jails (at jails n).parent))) jails) n (record (at jails n) { living = f (at jails n).living }) ≡ map (recount f (from (path_at jails n))) jails
  counted-more = same_lists _ _ (long ∙ sym (length-map jails _)) each
    where
      long : length (slice_set told n (record (at jails n) { living = f (at jails n).living })) ≡ length jails
      long = length-set told n _ ∙ length-map jails _

      each : (k : ℕ) (d : Jail) → k < length (slice_set told n (record (at jails n) { living = f (at jails n).living })) → get_or (slice_set told n (record (at jails n) { living = f (at jails n).living })) k d ≡ get_or (map (recount f (from (path_at jails n))) jails) k d
      each k d lt = ⊎_elim here there (cases_eq k n)
        where
          in' : k < length jails
          in' = subst (λ m. k < m) long lt

          right : get_or (map (recount f (from (path_at jails n))) jails) k d ≡ recount f (path_at jails n ∷ rest) (at jails k)
          right = get_or-map (recount f (from (path_at jails n))) jails k (dead_jail [] 0) d in' ∙ ap (λ ps. recount f ps (at jails k)) (from-parent jails linked n within some)

          here : k ≡ n → get_or (slice_set told n (record (at jails n) { living = f (at jails n).living })) k d ≡ get_or (map (recount f (from (path_at jails n))) jails) k d
          here e = ap (λ m. get_or (slice_set told n (record (at jails n) { living = f (at jails n).living })) m d) e
              ∙ get_or-set_same told n (record (at jails n) { living = f (at jails n).living }) d (subst (λ m. n < m) (sym (length-map jails _)) within)
              ∙ by (path_eq (path_at jails n) (path_at jails n)) ((path_eq-Decides (path_at jails n) (path_at jails n)).1 refl)
              ∙ ap (λ m. recount f (path_at jails n ∷ rest) (at jails m)) (sym e)
              ∙ sym right
            where
              by : (b : Bool) → b ≡ true → record (at jails n) { living = f (at jails n).living } ≡ (if b || list_any (path_eq (path_at jails n)) rest then record (at jails n) { living = f (at jails n).living } else at jails n)
              by true e = refl
              by false e = absurd (false≢true e)

          there : k ≢ n → get_or (slice_set told n (record (at jails n) { living = f (at jails n).living })) k d ≡ get_or (map (recount f (from (path_at jails n))) jails) k d
          there ne = get_or-set_other told n k (record (at jails n) { living = f (at jails n).living }) d ne
              ∙ get_or-map (recount f rest) jails k (dead_jail [] 0) d in'
              ∙ by (path_eq (path_at jails k) (path_at jails n)) (false_from_ne_true _ (λ same. ne (linked.distinct k n in' within ((path_eq-Decides (path_at jails k) (path_at jails n)).0 same))))
              ∙ sym right
            where
              by : (b : Bool) → b ≡ false → recount f rest (at jails k) ≡ (if b || list_any (path_eq (path_at jails k)) rest then record (at jails k) { living = f (at jails k).living } else at jails k)
              by true e = absurd (false≢true (sym e))
              by false e = refl
