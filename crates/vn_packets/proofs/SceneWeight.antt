-- What a scene weighs where a frame is sent, a datagram held, or a neighbour's entry resolved.
use Rattle.std.proofs.Common.{◌≡◌, ℕ, zero, suc, ◌+◌, ◌-◌, ◌≤◌, Bool, true, false, cond, not, ◌||◌, List, [], ◌∷◌, ◌++◌, map, length, drop, sum, find, count_by, Option, Some, None, refl, sym, ap, ◌∙◌, arith, le_trans, le_of_eq}
use Rattle.std.specs.List.{list_any}
use Rattle.std.specs.Option.{option_map_or}
use Rattle.std.proofs.lemmas.Bool.{or_parts}
use Rattle.std.proofs.lemmas.List.Sums.{sum_by-cons, sum-map}
use Rattle.vn_types.specs.declared.address.Ip4.{Ip4}
use Rattle.vn_types.specs.declared.address.Mac.{Mac}
use Rattle.vn_rules.specs.declared.arp.ArpEntryOf.{ArpEntryOf}
use Rattle.vn_rules.specs.declared.arp.ArpState.TheVariants.{Learnt}
use Rattle.vn_rules.specs.declared.arp.TheConstants.{HELD_MAX}
use Rattle.vn_rules.specs.declared.parts.PartsOf.{PartsOf}
use Rattle.vn_rules.specs.Arp.{new_entry, holding, resolved, is_entry_at, entry_of, held_for, with_entry}
use Rattle.vn_rules.specs.Resolution as resolution
use Rattle.vn_rules.specs.Resolution.{request_time, learnt_time, timed_entry, untimed, asks, merges, adds, after_hold, after_input}
use Rattle.vn_rules.specs.Scenes.{LinkOf, SceneOf, own_link, link_of, on_link}
use Rattle.vn_rules.proofs.ListTests.{count_map_same}
use Rattle.vn_packets.specs.declared.tally.Tally.{Tally}
use Rattle.vn_packets.specs.declared.tally.Tally.TheVariants.{Link, Full}
use Rattle.vn_packets.specs.Drops.{on_parts, counted, lost, lost_if}
use Rattle.vn_packets.specs.Links.{is_link_full, with_frame, enqueued, sent_by, sent}
use Rattle.vn_packets.specs.Weighing.{HasOneLink, HasOneEntry, Weighs}
use Rattle.vn_packets.specs.Weight.{datagram_weight, datagrams_weight, frame_weight, frames_weight, parts_weight, scene_weight}
use Rattle.vn_packets.proofs.Counting.{none-cons, one-cons}

-- ---- lists of things that weigh something

module _ {A : Type 0} (w : A → ℕ) where
  -- all of them
  abbrev pub all_weigh : List A → ℕ
  all_weigh xs = sum (map w xs)

  pub weigh-cons : (x : A) (xs : List A) → all_weigh (x ∷ xs) ≡ w x + all_weigh xs
  weigh-cons x xs = sum-map w (x ∷ xs) ∙ sum_by-cons w x xs ∙ ap (λ n. w x + n) (sym (sum-map w xs))

  pub weigh-push : (xs : List A) (y : A) → all_weigh (xs ++ y ∷ []) ≡ all_weigh xs + w y
  weigh-push [] y = omega (arith, weigh-cons y [])
  weigh-push (x ∷ xs) y = omega (arith, weigh-push xs y, weigh-cons x xs, weigh-cons x (xs ++ y ∷ []))

  pub weigh-drop : (k : ℕ) (xs : List A) → all_weigh (drop k xs) ≤ all_weigh xs
  weigh-drop zero xs = omega arith
  weigh-drop (suc k) [] = omega arith
  weigh-drop (suc k) (x ∷ xs) = omega (arith, weigh-drop k xs, weigh-cons x xs)

  module _ (t : A → Bool) (f : A → A) where
    -- those that pass are changed
    abbrev pub changed : List A → List A
    changed xs = map (λ x. cond (t x) (f x) x) xs

    unchanged : (xs : List A) → count_by t xs ≡ 0 → all_weigh (changed xs) ≡ all_weigh xs
    unchanged [] none = refl
    unchanged (x ∷ xs) none =
        let parts = none-cons t x xs none in
        weigh-cons (cond (t x) (f x) x) (changed xs) ∙ ap (λ b. w (cond b (f x) x) + all_weigh (changed xs)) parts.0 ∙ ap (λ n. w x + n) (unchanged xs parts.1) ∙ sym (weigh-cons x xs)

    -- one of them, or none, may weigh so much more
    pub changed-one : (c : ℕ) → ((x : A) → w (f x) ≤ w x + c) → (xs : List A) → count_by t xs ≤ 1 → all_weigh (changed xs) ≤ all_weigh xs + c
    changed-one c most [] one = omega arith
    changed-one c most (x ∷ xs) one =
        let parts = one-cons t x xs one in
        let all = by (t x) (λ is. unchanged xs (parts.1 is)) (changed-one c most xs parts.0) in
        omega (arith, all, weigh-cons x xs, weigh-cons (cond (t x) (f x) x) (changed xs))
      where
        by : (b : Bool) → (b ≡ true → all_weigh (changed xs) ≡ all_weigh xs) → all_weigh (changed xs) ≤ all_weigh xs + c
            → w (cond b (f x) x) + all_weigh (changed xs) ≤ w x + all_weigh xs + c
        by true same more = let here = most x in let others = same refl in omega (arith, here, others)
        by false same more = omega (arith, more)

    module _ (nothing : (x : A) → w (f x) ≡ 0) where
      lighter : (xs : List A) → all_weigh (changed xs) ≤ all_weigh xs
      lighter [] = omega arith
      lighter (x ∷ xs) = let all = by (t x) (lighter xs) in omega (arith, all, weigh-cons x xs, weigh-cons (cond (t x) (f x) x) (changed xs))
        where
          by : (b : Bool) → all_weigh (changed xs) ≤ all_weigh xs → w (cond b (f x) x) + all_weigh (changed xs) ≤ w x + all_weigh xs
          by true more = let here = nothing x in omega (arith, here, more)
          by false more = omega (arith, more)

      -- the first that passes weighs nothing afterwards
      pub changed-found : (xs : List A) → all_weigh (changed xs) + option_map_or w (find t xs) 0 ≤ all_weigh xs
      changed-found [] = omega arith
      changed-found (x ∷ xs) = let all = by (t x) (lighter xs) (changed-found xs) in omega (arith, all, weigh-cons x xs, weigh-cons (cond (t x) (f x) x) (changed xs))
        where
          by : (b : Bool) → all_weigh (changed xs) ≤ all_weigh xs → all_weigh (changed xs) + option_map_or w (find t xs) 0 ≤ all_weigh xs
              → w (cond b (f x) x) + all_weigh (changed xs) + option_map_or w (cond b (Some x) (find t xs)) 0 ≤ w x + all_weigh xs
          by true less more = let here = nothing x in omega (arith, here, less)
          by false less more = omega (arith, more)

-- ---- scenes

module _ {N : Type 0} (same : N → N → Bool) where
  pub weighs-refl : (s : SceneOf N) → Weighs same 0 s s
  weighs-refl s = record { weight = omega arith; links = λ h. refl }

  pub weighs-then : {k l : ℕ} (s t u : SceneOf N) → Weighs same k s t → Weighs same l t u → Weighs same (k + l) s u
  weighs-then s t u first next = record { weight = omega (arith, first.weight, next.weight); links = λ h. next.links h ∙ first.links h }

  pub weighs-more : {k l : ℕ} (s t : SceneOf N) → k ≤ l → Weighs same k s t → Weighs same l s t
  weighs-more s t less g = record { weight = omega (arith, g.weight); links = g.links }

  pub weighs-either : {k : ℕ} (s t u : SceneOf N) (b : Bool) → Weighs same k s t → Weighs same k s u → Weighs same k s (cond b t u)
  weighs-either s t u true left right = left
  weighs-either s t u false left right = right

  pub one-link : {k : ℕ} (s t : SceneOf N) → Weighs same k s t → HasOneLink same s → HasOneLink same t
  one-link s t g one h = le_trans (le_of_eq (g.links h)) (one h)

  -- ---- its tables

  pub on_parts-weighs : {k : ℕ} (f : PartsOf N → PartsOf N) (s : SceneOf N) → parts_weight (f s.parts) ≤ parts_weight s.parts + k → Weighs same k s (on_parts f s)
  unfolding scene_weight
  on_parts-weighs f s most = record { weight = omega (arith, most); links = λ h. refl }

  counted-weight : (what : Tally) (n : ℕ) (p : PartsOf N) → parts_weight (counted what n p) ≡ parts_weight p
  unfolding counted parts_weight
  counted-weight what n p = refl

  pub lost-weighs : (what : Tally) (n : ℕ) (s : SceneOf N) → Weighs same 0 s (lost what n s)
  lost-weighs what n s = let e = counted-weight what n s.parts in on_parts-weighs (counted what n) s (omega (arith, e))

  pub lost_if-weighs : (b : Bool) (what : Tally) (s : SceneOf N) → Weighs same 0 s (lost_if b what s)
  lost_if-weighs b what s = weighs-either s (lost what 1 s) s b (lost-weighs what 1 s) (weighs-refl s)

  -- ---- a half sends a frame

  with_frame-weight : (frame : List ℕ) (l : LinkOf N) → frames_weight (with_frame frame l).sent ≤ frames_weight l.sent + frame_weight frame
  with_frame-weight frame l = by (is_link_full l)
    where
      by : (b : Bool) → frames_weight (cond b l (record l { sent = l.sent ++ frame ∷ [] })).sent ≤ frames_weight l.sent + frame_weight frame
      by true = omega arith
      by false = le_of_eq (weigh-push frame_weight l.sent frame)

  own-half : (h g : N) (frame : List ℕ) (l : LinkOf N) → same (own_link same h (with_frame frame) l).half g ≡ same l.half g
  own-half h g frame l = by (same l.half h) (is_link_full l)
    where
      by : (b c : Bool) → same (cond b (cond c l (record l { sent = l.sent ++ frame ∷ [] })) l).half g ≡ same l.half g
      by true true = refl
      by true false = refl
      by false c = refl

  pub enqueued-weighs : (h : N) (frame : List ℕ) (s : SceneOf N) → HasOneLink same s → Weighs same (frame_weight frame) s (enqueued same h frame s)
  unfolding enqueued on_link scene_weight
  enqueued-weighs h frame s one =
      let most = changed-one (λ (l : LinkOf N). frames_weight l.sent) (λ l. same l.half h) (with_frame frame) (frame_weight frame) (with_frame-weight frame) s.links (one h) in
      record {
        weight = omega (arith, most);
        links = λ g. count_map_same (own_link same h (with_frame frame)) (λ l. same l.half g) (λ l. same l.half g) (own-half h g frame) s.links;
      }

  sent_by-weighs : (l : LinkOf N) (h : N) (frame : List ℕ) (s : SceneOf N) → HasOneLink same s → Weighs same (frame_weight frame) s (sent_by same l h frame s)
  sent_by-weighs l h frame s one =
      weighs-either s (lost Link 1 s) (cond (is_link_full l) (lost Full 1 s) (enqueued same h frame s)) (not l.up) (weighs-more s (lost Link 1 s) (omega arith) (lost-weighs Link 1 s))
      (weighs-either s (lost Full 1 s) (enqueued same h frame s) (is_link_full l) (weighs-more s (lost Full 1 s) (omega arith) (lost-weighs Full 1 s)) (enqueued-weighs h frame s one))

  pub sent-weighs : (h : N) (frame : List ℕ) (s : SceneOf N) → HasOneLink same s → Weighs same (frame_weight frame) s (sent same h frame s)
  unfolding sent
  sent-weighs h frame s one = sent_by-weighs (link_of same h s) h frame s one

  -- ---- ARP entries

  -- what the datagrams weigh that an entry holds
  abbrev holds : ArpEntryOf N → ℕ
  holds e = datagrams_weight e.held

  module _ (h : N) (ip : Ip4) where
    holding-weight : (datagram : List ℕ) (e : ArpEntryOf N) → holds (holding datagram e) ≤ holds e + datagram_weight datagram
    holding-weight datagram e =
        let kept = weigh-drop datagram_weight (length (e.held ++ datagram ∷ []) - HELD_MAX) (e.held ++ datagram ∷ []) in
        let more = weigh-push datagram_weight e.held datagram in
        omega (arith, kept, more)

    hold-entries : (datagram : List ℕ) (es : List (ArpEntryOf N)) → count_by (is_entry_at same h ip) es ≤ 1
        → all_weigh holds (with_entry same h ip (holding datagram) es) ≤ all_weigh holds es + datagram_weight datagram
    hold-entries datagram es one = by (list_any (is_entry_at same h ip) es)
      where
        by : (b : Bool) → all_weigh holds (cond b (changed holds (is_entry_at same h ip) (holding datagram) es) (es ++ holding datagram (new_entry h ip) ∷ [])) ≤ all_weigh holds es + datagram_weight datagram
        by true = changed-one holds (is_entry_at same h ip) (holding datagram) (datagram_weight datagram) (holding-weight datagram) es one
        by false = let added = weigh-push holds es (holding datagram (new_entry h ip)) in let first = holding-weight datagram (new_entry h ip) in omega (arith, added, first)

    pub hold-weighs : (now : ℕ) (datagram : List ℕ) (p : PartsOf N) → HasOneEntry same p → parts_weight (after_hold same now h ip datagram p) ≤ parts_weight p + datagram_weight datagram
    unfolding after_hold parts_weight
    hold-weighs now datagram p one = by (asks same h ip p.arp)
      where
        most : all_weigh holds (with_entry same h ip (holding datagram) p.arp) ≤ all_weigh holds p.arp + datagram_weight datagram
        most = hold-entries datagram p.arp (one h ip)

        by : (b : Bool) → parts_weight (cond b (timed_entry same (now + request_time) h ip (holding datagram) p) (record p { arp = with_entry same h ip (holding datagram) p.arp })) ≤ parts_weight p + datagram_weight datagram
        by true = omega (arith, most)
        by false = omega (arith, most)

    -- what is held is sent where the neighbour's address becomes known
    held-weight : (o : Option (ArpEntryOf N)) → datagrams_weight (option_map_or (λ (e : ArpEntryOf N). e.held) o []) ≡ option_map_or holds o 0
    held-weight None = refl
    held-weight (Some e) = refl

    absent : (es : List (ArpEntryOf N)) → list_any (is_entry_at same h ip) es ≡ false → find (is_entry_at same h ip) es ≡ None
    absent [] none = refl
    absent (e ∷ es) none = let parts = or_parts (is_entry_at same h ip e) _ none in ap (λ b. cond b (Some e) (find (is_entry_at same h ip) es)) parts.0 ∙ absent es parts.1

    resolve-entries : (mac : Mac) (es : List (ArpEntryOf N)) → all_weigh holds (with_entry same h ip (resolved Learnt mac) es) + datagrams_weight (held_for same h ip es) ≤ all_weigh holds es
    resolve-entries mac es = by (list_any (is_entry_at same h ip) es) refl
      where
        by : (b : Bool) → list_any (is_entry_at same h ip) es ≡ b
            → all_weigh holds (cond b (changed holds (is_entry_at same h ip) (resolved Learnt mac) es) (es ++ resolved Learnt mac (new_entry h ip) ∷ [])) + datagrams_weight (held_for same h ip es) ≤ all_weigh holds es
        by true is = let less = changed-found holds (is_entry_at same h ip) (resolved Learnt mac) (λ e. refl) es in let given = held-weight (entry_of same h ip es) in omega (arith, less, given)
        by false is =
            let added = weigh-push holds es (resolved Learnt mac (new_entry h ip)) in
            let given : datagrams_weight (held_for same h ip es) ≡ 0 = held-weight (entry_of same h ip es) ∙ ap (λ o. option_map_or holds o 0) (absent es is) in
            omega (arith, added, given)

    pub input-weighs : (now : ℕ) (mac : Mac) (is_target : Bool) (p : PartsOf N)
        → parts_weight (after_input same now h ip mac is_target p) + datagrams_weight (resolution.released same h ip p.arp) ≤ parts_weight p
    unfolding after_input parts_weight
    input-weighs now mac is_target p = by (merges same h ip p.arp) (adds same h ip is_target p.arp)
      where
        less : all_weigh holds (with_entry same h ip (resolved Learnt mac) p.arp) + datagrams_weight (held_for same h ip p.arp) ≤ all_weigh holds p.arp
        less = resolve-entries mac p.arp

        by : (b c : Bool) → parts_weight (cond (b || c) (timed_entry same (now + learnt_time) h ip (resolved Learnt mac) (untimed same h ip p)) p) + datagrams_weight (cond b (held_for same h ip p.arp) []) ≤ parts_weight p
        by true c = omega (arith, less)
        by false true = omega (arith, less)
        by false false = omega arith
