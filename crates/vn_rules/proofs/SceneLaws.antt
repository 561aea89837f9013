-- Scenes under other names: a half's link is found, and changed, under each renaming that keeps the test on names.
use Rattle.std.proofs.Common.{◌≡◌, Bool, true, false, List, [], ◌∷◌, map, Option, Some, None, refl, ap, ◌∙◌}
use Rattle.std.specs.Option.{option_map}
use Rattle.std.specs.Prelude.{if◌then◌else◌, unwrap_or, cond}
use Rattle.std.specs.List.{find}
use Rattle.vn_rules.specs.Scenes.{LinkOf, SceneOf, no_link, link_of, own_link, on_link, as_link, renamed_scene}
use Rattle.vn_rules.specs.Renamed.{renamed}

-- what is found among renamed things is what is found, renamed
pub find_renamed : {A B : Type 0} (g : A → B) (f : A → Bool) (h : B → Bool) → ((a : A) → h (g a) ≡ f a)
    → (xs : List A) → find h (map g xs) ≡ option_map g (find f xs)
find_renamed g f h same [] = refl
find_renamed g f h same (x ∷ xs) = by (h (g x)) (f x) (same x) (find_renamed g f h same xs)
  where
    by : (a b : Bool) → a ≡ b → find h (map g xs) ≡ option_map g (find f xs)
        → cond a (Some (g x)) (find h (map g xs)) ≡ option_map g (cond b (Some x) (find f xs))
    by true true e more = refl
    by false false e more = more
    by true false e more = cc
    by false true e more = cc

module _ {N M : Type 0} (r : N → M) (at_n : N → N → Bool) (at_m : M → M → Bool)
    (faithful : (a b : N) → at_m (r a) (r b) ≡ at_n a b) where
  pub link_of-renamed : (h : N) (s : SceneOf N) → link_of at_m (r h) (renamed_scene r s) ≡ as_link r (link_of at_n h s)
  unfolding link_of renamed_scene
  link_of-renamed h s =
      ap (λ o. unwrap_or o (no_link (r h)))
      (find_renamed (as_link r) (λ l. at_n l.half h) (λ l. at_m l.half (r h)) (λ l. faithful l.half h) s.links)
      ∙ by (find (λ l. at_n l.half h) s.links)
    where
      by : (o : Option (LinkOf N)) → unwrap_or (option_map (as_link r) o) (no_link (r h)) ≡ as_link r (unwrap_or o (no_link h))
      by None = refl
      by (Some l) = refl

  module _ (h : N) (f : LinkOf N → LinkOf N) (g : LinkOf M → LinkOf M) (same : (l : LinkOf N) → g (as_link r l) ≡ as_link r (f l)) where
    own_link-renamed : (l : LinkOf N) → own_link at_m (r h) g (as_link r l) ≡ as_link r (own_link at_n h f l)
    own_link-renamed l = ap (λ b. if b then g (as_link r l) else as_link r l) (faithful l.half h) ∙ by (at_n l.half h)
      where
        by : (b : Bool) → (if b then g (as_link r l) else as_link r l) ≡ as_link r (if b then f l else l)
        by true = same l
        by false = refl

    links-renamed : (ls : List (LinkOf N)) → map (own_link at_m (r h) g) (map (as_link r) ls) ≡ map (as_link r) (map (own_link at_n h f) ls)
    links-renamed [] = refl
    links-renamed (l ∷ ls) = λ i. own_link-renamed l i ∷ links-renamed ls i

    pub on_link-renamed : (s : SceneOf N) → on_link at_m (r h) g (renamed_scene r s) ≡ renamed_scene r (on_link at_n h f s)
    unfolding on_link renamed_scene
    on_link-renamed s i = record { parts = renamed r s.parts; links = links-renamed s.links i }
