-- The entry of an address on a half: what holds of all entries where it is put in its place or last.
use Rattle.std.proofs.Common.{◌≡◌, Bool, true, false, cond, ◌&&◌, ◌||◌, ◌==◌, List, [], ◌∷◌, ◌++◌, map, Option, Some, None, refl, sym, ap, ◌∙◌}
use Rattle.std.specs.Bool.{Decides}
use Rattle.std.specs.Prelude.{unwrap_or}
use Rattle.std.specs.List.{list_any, list_all}
use Rattle.std.proofs.lemmas.Bool.{and_parts, and_from, or_parts, or_from, or_left, or_right, both_ways, eqb-true, eq-eqb}
use Rattle.std.proofs.lemmas.List.Folds.{list_any-append}
use Rattle.vn_types.specs.declared.address.Ip4.{Ip4}
use Rattle.vn_rules.specs.declared.arp.ArpEntryOf.{ArpEntryOf}
use Rattle.vn_rules.specs.Arp.{new_entry, is_place, is_entry_at, entry_of, on_entry, with_entry}
use Rattle.vn_rules.specs.Orders.{are_distinct}
use Rattle.vn_rules.specs.Soundness.{is_same_entry, has_distinct_entries}
use Rattle.vn_rules.proofs.ListTests.{absent-none, found-some, all_push, distinct_map_same, distinct_push, distinct_weaker, both_pass, find_passes, edit_found}

module _ {N : Type 0} (same : N → N → Bool) (decides : (g h : N) → Decides (same g h) (g ≡ h)) (half : N) (ip : Ip4) where
  -- ---- what the test of a place tells

  pub record AtPlace (own : N) (at : Ip4) : Type 0 where
    pub halves : own ≡ half
    pub addresses : at ≡ ip

  pub place_from_test : (own : N) (at : Ip4) → is_place same half ip own at ≡ true → AtPlace own at
  place_from_test own at test =
      let two = and_parts (same own half) (at.0 == ip.0) test in
      let numbers = eqb-true at.0 ip.0 two.1 in
      record { halves = (decides own half).0 two.0; addresses = λ i. record { 0 = numbers i } }

  pub test_from_place : (own : N) (at : Ip4) → AtPlace own at → is_place same half ip own at ≡ true
  test_from_place own at here = and_from (same own half) (at.0 == ip.0) ((decides own half).1 here.halves) (eq-eqb at.0 ip.0 (ap (λ (a : Ip4). a.0) here.addresses))

  pub new_entry-place : is_entry_at same half ip (new_entry half ip) ≡ true
  new_entry-place = test_from_place half ip (record { halves = refl; addresses = refl })

  -- ---- an entry of that place is put there

  module _ (t : ArpEntryOf N) where
    abbrev pub put : List (ArpEntryOf N) → List (ArpEntryOf N)
    put es = with_entry same half ip (λ e. t) es

    abbrev on_place : List (ArpEntryOf N) → List (ArpEntryOf N)
    on_place es = map (λ e. cond (is_entry_at same half ip e) t e) es

    -- what holds of it, and of all others
    pub all_put : (p q : ArpEntryOf N → Bool) → ((e : ArpEntryOf N) → p e ≡ true → is_entry_at same half ip e ≡ false → q e ≡ true) → q t ≡ true → (es : List (ArpEntryOf N)) → list_all p es ≡ true → list_all q (put es) ≡ true
    all_put p q others here es all = by (list_any (is_entry_at same half ip) es) refl
      where
        replaced : (es : List (ArpEntryOf N)) → list_all p es ≡ true → list_all q (on_place es) ≡ true
        replaced [] all = refl
        replaced (e ∷ es) all = let parts = and_parts (p e) _ all in and_from _ _ (at (is_entry_at same half ip e) refl parts.0) (replaced es parts.1)
          where
            at : (b : Bool) → is_entry_at same half ip e ≡ b → p e ≡ true → q (cond b t e) ≡ true
            at true is holds = here
            at false is holds = others e holds is

        kept : (es : List (ArpEntryOf N)) → list_any (is_entry_at same half ip) es ≡ false → list_all p es ≡ true → list_all q es ≡ true
        kept [] none all = refl
        kept (e ∷ es) none all =
            let parts = and_parts (p e) _ all in
            let two = or_parts (is_entry_at same half ip e) _ none in
            and_from _ _ (others e parts.0 two.0) (kept es two.1 parts.1)

        by : (b : Bool) → list_any (is_entry_at same half ip) es ≡ b → list_all q (cond b (on_place es) (es ++ t ∷ [])) ≡ true
        by true is = replaced es all
        by false is = all_push q t es (kept es is all) here

    pub any_put_here : (q : ArpEntryOf N → Bool) → q t ≡ true → (es : List (ArpEntryOf N)) → list_any q (put es) ≡ true
    any_put_here q here es = by (list_any (is_entry_at same half ip) es) refl
      where
        replaced : (es : List (ArpEntryOf N)) → list_any (is_entry_at same half ip) es ≡ true → list_any q (on_place es) ≡ true
        replaced [] some = cc
        replaced (e ∷ es) some = at (is_entry_at same half ip e) some (replaced es)
          where
            at : (b : Bool) → (b || list_any (is_entry_at same half ip) es) ≡ true → (list_any (is_entry_at same half ip) es ≡ true → list_any q (on_place es) ≡ true) → (q (cond b t e) || list_any q (on_place es)) ≡ true
            at true some more = or_left (q t) _ here
            at false some more = or_right (q e) _ (more some)

        by : (b : Bool) → list_any (is_entry_at same half ip) es ≡ b → list_any q (cond b (on_place es) (es ++ t ∷ [])) ≡ true
        by true is = replaced es is
        by false is = list_any-append q es (t ∷ []) ∙ or_right (list_any q es) _ (or_left (q t) false here)

    -- what looks at the place alone is found as before
    pub any_put : (q : ArpEntryOf N → Bool) → ((e : ArpEntryOf N) → is_entry_at same half ip e ≡ true → q e ≡ true → q t ≡ true) → (es : List (ArpEntryOf N)) → list_any q es ≡ true → list_any q (put es) ≡ true
    any_put q alike es some = by (list_any (is_entry_at same half ip) es)
      where
        replaced : (es : List (ArpEntryOf N)) → list_any q es ≡ true → list_any q (on_place es) ≡ true
        replaced [] some = cc
        replaced (e ∷ es) some = at (is_entry_at same half ip e) (q e) refl refl some (replaced es)
          where
            at : (b c : Bool) → is_entry_at same half ip e ≡ b → q e ≡ c → (c || list_any q es) ≡ true → (list_any q es ≡ true → list_any q (on_place es) ≡ true) → (q (cond b t e) || list_any q (on_place es)) ≡ true
            at true true is so some more = or_left (q t) _ (alike e is so)
            at false true is so some more = or_left (q e) _ so
            at true false is so some more = or_right (q t) _ (more some)
            at false false is so some more = or_right (q e) _ (more some)

        by : (b : Bool) → list_any q (cond b (on_place es) (es ++ t ∷ [])) ≡ true
        by true = replaced es some
        by false = list_any-append q es (t ∷ []) ∙ or_left (list_any q es) _ some

    pub distinct_put : is_entry_at same half ip t ≡ true → (es : List (ArpEntryOf N)) → has_distinct_entries same es ≡ true → has_distinct_entries same (put es) ≡ true
    unfolding has_distinct_entries
    distinct_put at es apart = by (list_any (is_entry_at same half ip) es) refl
      where
        here : AtPlace t.half t.ip
        here = place_from_test t.half t.ip at

        halves : (b : Bool) (e : ArpEntryOf N) → is_entry_at same half ip e ≡ b → (cond b t e).half ≡ e.half
        halves true e is = here.halves ∙ sym (AtPlace.halves (place_from_test e.half e.ip is))
        halves false e is = refl

        ips : (b : Bool) (e : ArpEntryOf N) → is_entry_at same half ip e ≡ b → (cond b t e).ip ≡ e.ip
        ips true e is = here.addresses ∙ sym (AtPlace.addresses (place_from_test e.half e.ip is))
        ips false e is = refl

        put_there : ArpEntryOf N → ArpEntryOf N
        put_there e = cond (is_entry_at same half ip e) t e

        alike : (e f : ArpEntryOf N) → is_same_entry same (put_there e) (put_there f) ≡ is_same_entry same e f
        alike e f = λ i. same (halves _ e refl i) (halves _ f refl i) && ((ips _ e refl i).0 == (ips _ f refl i).0)

        none : (es : List (ArpEntryOf N)) → list_any (is_entry_at same half ip) es ≡ false → list_any (λ e. is_same_entry same e t) es ≡ false
        none [] clear = refl
        none (e ∷ es) clear =
            let two = or_parts (is_entry_at same half ip e) _ clear in
            or_from _ _ ((λ i. same e.half (here.halves i) && (e.ip.0 == (here.addresses i).0)) ∙ two.0) (none es two.1)

        by : (b : Bool) → list_any (is_entry_at same half ip) es ≡ b → are_distinct (is_same_entry same) (cond b (on_place es) (es ++ t ∷ [])) ≡ true
        by true is = distinct_map_same put_there (is_same_entry same) (is_same_entry same) alike es ∙ apart
        by false is = distinct_push (is_same_entry same) t es apart (none es is)

  -- ---- a change of the entry puts another one there

  -- the entry that is changed: the one there, or a new one
  abbrev pub base : List (ArpEntryOf N) → ArpEntryOf N
  base es = unwrap_or (entry_of same half ip es) (new_entry half ip)

  pub base-place : (es : List (ArpEntryOf N)) → is_entry_at same half ip (base es) ≡ true
  base-place es = by (entry_of same half ip es) refl
    where
      by : (o : Option (ArpEntryOf N)) → entry_of same half ip es ≡ o → is_entry_at same half ip (unwrap_or o (new_entry half ip)) ≡ true
      by None is = new_entry-place
      by (Some e) is = find_passes (is_entry_at same half ip) es e is

  pub one_there : (es : List (ArpEntryOf N)) → has_distinct_entries same es ≡ true → are_distinct (both_pass (is_entry_at same half ip)) es ≡ true
  unfolding has_distinct_entries
  one_there es apart = distinct_weaker (is_same_entry same) (both_pass (is_entry_at same half ip)) both es apart
    where
      both : (e f : ArpEntryOf N) → both_pass (is_entry_at same half ip) e f ≡ true → is_same_entry same e f ≡ true
      both e f two =
          let parts = and_parts (is_entry_at same half ip e) _ two in
          let one = place_from_test e.half e.ip parts.0 in
          let other = place_from_test f.half f.ip parts.1 in
          and_from _ _ ((decides e.half f.half).1 (one.halves ∙ sym other.halves)) (eq-eqb e.ip.0 f.ip.0 (ap (λ (a : Ip4). a.0) (one.addresses ∙ sym other.addresses)))

  pub with_entry-put : (f : ArpEntryOf N → ArpEntryOf N) (es : List (ArpEntryOf N)) → has_distinct_entries same es ≡ true → with_entry same half ip f es ≡ put (f (base es)) es
  with_entry-put f es apart = by (entry_of same half ip es) (list_any (is_entry_at same half ip) es) refl refl
    where
      by : (o : Option (ArpEntryOf N)) (b : Bool) → entry_of same half ip es ≡ o → list_any (is_entry_at same half ip) es ≡ b
          → cond b (on_entry same half ip f es) (es ++ f (new_entry half ip) ∷ []) ≡ cond b (on_place (f (unwrap_or o (new_entry half ip))) es) (es ++ f (unwrap_or o (new_entry half ip)) ∷ [])
      by None true is so = absurd (both_ways _ (absent-none (is_entry_at same half ip) es is) so)
      by None false is so = refl
      by (Some e) true is so = edit_found (is_entry_at same half ip) f es e (one_there es apart) is
      by (Some e) false is so = absurd (both_ways _ so (found-some (is_entry_at same half ip) es e is))
