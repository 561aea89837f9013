use Rattle.std.proofs.Common.{◌≡◌, ◌≢◌, ◌<◌, ◌≤◌, true, false, ◌||◌, ◌==◌, ◌&&◌, not, List, [], ◌∷◌, length, get_or, refl, sym, ap, subst, ◌∙◌, arith}
use Rattle.std.specs.List.{list_any}
use Rattle.std.proofs.lemmas.Bool.{and_parts, and_from, not-true, eqb-true, false≢true}
use Rattle.std.proofs.Math.Bool.{or-false}
use Rattle.vn_types.specs.declared.interface.Sid.{Sid}
use Rattle.vn_types.specs.Paths.{Path, path_eq, above, first_or_host, is_host, is_under, parent}
use Rattle.vn_types.specs.PathOrder.{path_eq-Decides}
use Rattle.vn_types.proofs.Ancestors.{any-above, is_host-path_eq}
use Rattle.vn_jail.specs.declared.jail.Jail.{Jail}
use Rattle.vn_jail.specs.Kept.{IsLinked}
use Rattle.vn_jail.specs.Order.{IsTeardown}
use Rattle.vn_jail.specs.Tree.{at, is_alive, is_at, lives_at, path_at}
use Rattle.vn_jail.proofs.Numbers.{at-path, found}
use Rattle.vn_table_tests.proofs.tests.jail.remove.Goals as goal

-- a path other than host is above each path whose parent it is
above-child : (p q : Path) → is_host p ≡ false → parent q ≡ p → list_any (path_eq p) (above q) ≡ true
above-child p q label child = by (above q) child
  where
    by : (ps : List Path) → first_or_host ps ≡ p → list_any (path_eq p) ps ≡ true
    by [] is = absurd (false≢true (sym label ∙ is_host-path_eq p ∙ (path_eq-Decides p []).1 (sym is)))
    by (r ∷ ps) is = ap (λ b. b || list_any (path_eq p) ps) ((path_eq-Decides p r).1 (sym is))

-- of a jail that is torn down alone
module _ (jails : List Jail) (linked : IsLinked jails) (p : Path) (sid : Sid) (label : is_host p ≡ false) (alone : IsTeardown p jails (sid ∷ [])) where
  own-path : path_at jails sid.0 ≡ p
  own-path = alone.last sid

  not-host : sid.0 ≢ 0
  not-host is = false≢true (sym label ∙ is_host-path_eq p ∙ (path_eq-Decides p []).1 (sym own-path ∙ ap (path_at jails) is ∙ linked.host))

  childless : (q : Path) → is_alive q jails ≡ true → parent q ≢ path_at jails sid.0
  childless q lives child =
      let f = found (lives_at q) jails lives in
      let here = and_parts (is_at q (at jails f.number)) (at jails f.number).alive f.passes in
      let own : path_at jails f.number ≡ q = at-path q (at jails f.number) here.0 in
      let below = and_parts (is_under q p && not (is_host p)) (not (path_eq p q)) (sym (any-above q p) ∙ above-child p q label (child ∙ own-path)) in
      let under : is_under (path_at jails f.number) p ≡ true = ap (λ r. is_under r p) own ∙ (and_parts (is_under q p) (not (is_host p)) below.0).0 in
      let listed = alone.listed f.number ∙ and_from (at jails f.number).alive (is_under (path_at jails f.number) p) here.1 under in
      let same : sid.0 ≡ f.number = eqb-true sid.0 f.number (sym (or-false (sid.0 == f.number)) ∙ listed) in
      false≢true (sym (not-true (path_eq p q) below.1) ∙ (path_eq-Decides p q).1 (sym own-path ∙ ap (path_at jails) same ∙ own))

-- a list of one
single : (xs : List Sid) (d : Sid) → 1 ≤ length xs → length xs < 2 → xs ≡ get_or xs 0 d ∷ []
single [] d least most = absurd (omega arith)
single (x ∷ []) d least most = refl
single (x ∷ y ∷ xs) d least most = absurd (omega arith)

-- the one of a list of one is torn down alone
torn-alone : (p : Path) (jails : List Jail) (slice items : List Sid) (d : Sid) → slice ≡ items → 1 ≤ length slice → length slice < 2 → IsTeardown p jails items → IsTeardown p jails (get_or slice 0 d ∷ [])
torn-alone p jails slice items d value least most torn = subst (λ (xs : List Sid). IsTeardown p jails xs) (sym value ∙ single slice d least most) torn

pub remove-requires-clause-jail : goal.remove-requires-clause-jail
remove-requires-clause-jail c =
    let torn = rw c.in-Ok-Ok.field-0-is at c.in-Ok-Ok.ensures.listed in
    let alone = torn-alone c.in_ok-jail.jail c.args.jails.now c.as_slice.result.now c.in-Ok-Ok.sids.items (record { 0 = 0 }) c.as_slice.ensures.value c.in-len1.len_at_least c.in-len1.len_below torn in
    not-host c.args.jails.now c.law_of_tree.ensures.paths c.in_ok-jail.jail _ c.in_ok-jail.ensures alone

pub remove-requires-clause-childless : goal.remove-requires-clause-childless
remove-requires-clause-childless c =
    let torn = rw c.in-Ok-Ok.field-0-is at c.in-Ok-Ok.ensures.listed in
    let alone = torn-alone c.in_ok-jail.jail c.args.jails.now c.as_slice.result.now c.in-Ok-Ok.sids.items (record { 0 = 0 }) c.as_slice.ensures.value c.in-len1.len_at_least c.in-len1.len_below torn in
    childless c.args.jails.now c.law_of_tree.ensures.paths c.in_ok-jail.jail _ c.in_ok-jail.ensures alone
