-- What the sockets of one port tell of all sockets.
use Rattle.std.proofs.Common.{◌≡◌, ℕ, ◌<◌, ◌≤◌, ◌+◌, Bool, true, false, cond, not, ◌&&◌, ◌||◌, ◌==◌, nat_lt, List, [], ◌∷◌, Option, Some, None, is_some, refl, sym, ap, subst, ◌∙◌, ◌⊎◌, inl, inr, arith}
use Rattle.std.specs.Prelude.{slice_get}
use Rattle.std.specs.List.{list_any, list_all, filter, find, position}
use Rattle.std.specs.Option.{option_map, option_map_or}
use Rattle.std.specs.Str.{bytes_eq}
use Rattle.std.proofs.lemmas.Bool.{and_parts, and_from, or_cases, both_ways, eqb-true, eq-eqb, ltb-true}
use Rattle.std.proofs.lemmas.Bool.Decides.{nat_tests}
use Rattle.std.proofs.lemmas.Option.{slice_get-map}
use Rattle.vn_types.specs.declared.address.Ip4.{Ip4}
use Rattle.vn_types.specs.declared.interface.HalfId.{HalfId}
use Rattle.vn_rules.specs.declared.socket.SocketOf.{SocketOf}
use Rattle.vn_rules.specs.Ports.{conflicts, is_port, is_port_free}
use Rattle.vn_rules.specs.Sockets.{has_sender, has_sent, is_ip, is_named, others, qualifies, socket_for}
use Rattle.vn_rules.proofs.ListEdits.{position_map_same}
use Rattle.vn_rules.proofs.ListTests.{absent-none, distinct_map_same, find_passes, found-some}
use Rattle.vn_sock.specs.declared.port_index.Bound.{Bound}
use Rattle.vn_sock.specs.Kept.{IsIndexed, are_named_apart, first_place, is_to_refuse, names_of, numbers_of}
use Rattle.vn_sock.specs.Names.{told}
use Rattle.vn_sock.specs.Ports.{are_ordered, has, is_bound, is_under, port_number, precedes}
use Rattle.vn_sock.proofs.Places.{any-filter}
use Rattle.vn_sock.proofs.PlaceEdits.{first-is-position, first-some, first-at, none-at, passes_at}

-- ---- the first of those under one number has the lowest place

any-weaker : {A : Type 0} (p q : A → Bool) → ((x : A) → p x ≡ true → q x ≡ true) → (xs : List A) → list_any p xs ≡ true → list_any q xs ≡ true
any-weaker p q weaker [] any = any
any-weaker p q weaker (x ∷ xs) any = by (λ more. any-weaker p q weaker xs more) (q x) refl (or_cases (p x) _ any)
  where
    by : (list_any p xs ≡ true → list_any q xs ≡ true) → (b : Bool) → q x ≡ b → (p x ≡ true) ⊎ (list_any p xs ≡ true) → (b || list_any q xs) ≡ true
    by rest true is any = refl
    by rest false is (inl here) = absurd (both_ways (q x) is (weaker x here))
    by rest false is (inr more) = rest more

later : (q : ℕ) (a b : Bound) → is_under q a ≡ true → is_under q b ≡ true → precedes a b ≡ true → nat_lt a.place b.place ≡ true
later q a b first second before = grind (arith, nat_tests)

all-later : (q : ℕ) (a : Bound) (bs : List Bound) → is_under q a ≡ true → list_all (is_under q) bs ≡ true → list_all (precedes a) bs ≡ true → list_all (λ b. nat_lt a.place b.place) bs ≡ true
all-later q a [] here under before = refl
all-later q a (b ∷ bs) here under before =
    let u = and_parts (is_under q b) _ under in
    let p = and_parts (precedes a b) _ before in
    and_from _ _ (later q a b here u.0 p.0) (all-later q a bs here u.1 p.1)

-- one of those that come later stands later
one-later : (w : Bound → Bool) (n k : ℕ) (bs : List Bound) → list_all (λ b. nat_lt n b.place) bs ≡ true → list_any (λ b. (b.place == k) && w b) bs ≡ true → n < k
one-later w n k [] all any = absurd (cc)
one-later w n k (b ∷ bs) all any =
    let parts = and_parts (nat_lt n b.place) _ all in by (λ more. one-later w n k bs parts.1 more) parts.0 (or_cases ((b.place == k) && w b) _ any)
  where
    by : (list_any (λ b. (b.place == k) && w b) bs ≡ true → n < k) → nat_lt n b.place ≡ true → (((b.place == k) && w b) ≡ true) ⊎ (list_any (λ b. (b.place == k) && w b) bs ≡ true) → n < k
    by rest less (inl here) = let at = eqb-true b.place k (and_parts (b.place == k) _ here).0 in omega (arith, ltb-true n b.place less, at)
    by rest less (inr more) = rest more

found-least : (q : ℕ) (w : Bound → Bool) (bs : List Bound) (b : Bound) (k : ℕ) → are_ordered bs ≡ true → list_all (is_under q) bs ≡ true → find w bs ≡ Some b
    → list_any (λ b. (b.place == k) && w b) bs ≡ true → b.place ≤ k
found-least q w [] b k ordered under found any = absurd (cc)
found-least q w (c ∷ cs) b k ordered under found any =
    let o = and_parts (list_all (precedes c) cs) _ ordered in
    let u = and_parts (is_under q c) _ under in
    by (λ found more. found-least q w cs b k o.1 u.1 found more) (w c) refl found o.0 u.0 u.1 (or_cases ((c.place == k) && w c) _ any)
  where
    by : (find w cs ≡ Some b → list_any (λ b. (b.place == k) && w b) cs ≡ true → b.place ≤ k) → (x : Bool) → w c ≡ x → cond x (Some c) (find w cs) ≡ Some b → list_all (precedes c) cs ≡ true → is_under q c ≡ true → list_all (is_under q) cs ≡ true
        → (((c.place == k) && w c) ≡ true) ⊎ (list_any (λ b. (b.place == k) && w b) cs ≡ true) → b.place ≤ k
    by rest true is found before here under (inl at) =
        let one : c ≡ b = cc in
        let same : c.place ≡ k = eqb-true c.place k (and_parts (c.place == k) _ at).0 in
        let place : c.place ≡ b.place = ap (λ (d : Bound). d.place) one in
        omega arith
    by rest true is found before here under (inr more) =
        let one : c ≡ b = cc in
        let place : c.place ≡ b.place = ap (λ (d : Bound). d.place) one in
        let less : c.place < k = one-later w c.place k cs (all-later q c cs here under before) more in
        omega arith
    by rest false is found before here under (inl at) = absurd (both_ways (w c) is (and_parts (c.place == k) _ at).1)
    by rest false is found before here under (inr more) = rest found more

kept-pass : {A : Type 0} (p : A → Bool) (xs : List A) → list_all p (filter p xs) ≡ true
kept-pass p [] = refl
kept-pass p (x ∷ xs) = by (p x) refl (kept-pass p xs)
  where
    by : (b : Bool) → p x ≡ b → list_all p (filter p xs) ≡ true → list_all p (cond b (x ∷ filter p xs) (filter p xs)) ≡ true
    by true is rest = and_from (p x) _ is rest
    by false is rest = rest

-- ---- where all sockets are told of

module _ (names : List (List ℕ × ℕ)) (ports : List Bound) (xs : List (SocketOf HalfId)) (kept : IsIndexed names ports (names_of xs) (numbers_of xs)) where
  -- no two have one name
  pub are-apart : are_named_apart xs ≡ true
  are-apart = sym (distinct_map_same (λ (s : SocketOf HalfId). s.name) (λ (s : SocketOf HalfId) (t : SocketOf HalfId). bytes_eq s.name t.name) bytes_eq (λ s t. refl) xs) ∙ kept.apart

  -- what is told of a name is its place
  pub told-place : (name : List ℕ) → told name names ≡ position (is_named name) xs
  told-place name =
      kept.named name ∙ first-is-position (bytes_eq name) (names_of xs) ∙ position_map_same (λ (s : SocketOf HalfId). s.name) (is_named name) (bytes_eq name) (λ s. refl) xs

  module _ (q : ℕ) (t : SocketOf HalfId → Bool) (only : (s : SocketOf HalfId) → t s ≡ true → (port_number s.port == q) ≡ true) where
    -- whether the test passes for the socket that is told of
    abbrev pub told_of : Bound → Bool
    told_of b = passes_at t xs b.place

    stands : (k : ℕ) → passes_at t xs k ≡ true → has q k ports ≡ true
    stands k passes = kept.bound q k ∙ ap (λ o. option_map_or (λ n. n == q) o false) (slice_get-map (λ (s : SocketOf HalfId). port_number s.port) xs k) ∙ by (slice_get xs k) passes
      where
        by : (o : Option (SocketOf HalfId)) → option_map_or t o false ≡ true → option_map_or (λ n. n == q) (option_map (λ (s : SocketOf HalfId). port_number s.port) o) false ≡ true
        by None passes = absurd (cc)
        by (Some s) passes = only s passes

    among : (k : ℕ) → passes_at t xs k ≡ true → list_any (λ b. (b.place == k) && told_of b) (filter (is_under q) ports) ≡ true
    among k passes =
        any-filter (is_under q) (λ b. (b.place == k) && told_of b) ports
        ∙ any-weaker (is_bound q k) (λ b. is_under q b && ((b.place == k) && told_of b)) weaker ports (stands k passes)
      where
        weaker : (b : Bound) → is_bound q k b ≡ true → (is_under q b && ((b.place == k) && told_of b)) ≡ true
        weaker b is =
            let parts = and_parts (b.port == q) _ is in
            and_from _ _ parts.0 (and_from _ _ parts.1 (ap (passes_at t xs) (eqb-true b.place k parts.1) ∙ passes))

    module _ (ordered : are_ordered (filter (is_under q) ports) ≡ true) where
      -- the first under the number for which the test passes is the first of all
      found-first : (o : Option Bound) → find told_of (filter (is_under q) ports) ≡ o → first_place t xs ≡ option_map (λ b. b.place) o
      found-first None is = none-at t xs (λ k. by k (passes_at t xs k) refl)
        where
          by : (k : ℕ) (b : Bool) → passes_at t xs k ≡ b → b ≡ false
          by k false passes = refl
          by k true passes =
              absurd (both_ways (list_any told_of (filter (is_under q) ports)) (absent-none told_of (filter (is_under q) ports) is)
              (any-weaker (λ b. (b.place == k) && told_of b) told_of (λ b both. (and_parts (b.place == k) _ both).1) (filter (is_under q) ports) (among k passes)))
      found-first (Some b) is = first-at t xs b.place (find_passes told_of (filter (is_under q) ports) b is) (λ j less. by j less (passes_at t xs j) refl)
        where
          by : (j : ℕ) → j < b.place → (x : Bool) → passes_at t xs j ≡ x → x ≡ false
          by j less false passes = refl
          by j less true passes =
              let least : b.place ≤ j = found-least q told_of (filter (is_under q) ports) b j ordered (kept-pass (is_under q) ports) is (among j passes) in
              absurd (omega arith)

      pub first-told : option_map (λ (b : Bound). b.place) (find told_of (filter (is_under q) ports)) ≡ position t xs
      first-told = sym (found-first (find told_of (filter (is_under q) ports)) refl) ∙ first-is-position t xs

      pub any-told : list_any told_of (filter (is_under q) ports) ≡ list_any t xs
      any-told = by (find told_of (filter (is_under q) ports)) refl ∙ first-some t xs
        where
          by : (o : Option Bound) → find told_of (filter (is_under q) ports) ≡ o → list_any told_of (filter (is_under q) ports) ≡ is_some (first_place t xs)
          by None is = absent-none told_of (filter (is_under q) ports) is ∙ sym (ap is_some (found-first None is))
          by (Some b) is = found-some told_of (filter (is_under q) ports) b is ∙ sym (ap is_some (found-first (Some b) is))

-- ---- datagrams and conflicts

port-alone : (port : ℕ) (o : Option ℕ) → is_port port o ≡ true → (port_number o == port + 1) ≡ true
port-alone port None is = absurd (cc)
port-alone port (Some own) is = eq-eqb (own + 1) (port + 1) (ap (λ n. n + 1) (eqb-true own port is))

module _ (names : List (List ℕ × ℕ)) (ports : List Bound) (xs now : List (SocketOf HalfId)) (kept : IsIndexed names ports (names_of xs) (numbers_of xs)) (view : xs ≡ now) where
  kept-now : IsIndexed names ports (names_of now) (numbers_of now)
  kept-now = subst (λ (ys : List (SocketOf HalfId)). IsIndexed names ports (names_of ys) (numbers_of ys)) view kept

  module _ (port : ℕ) (found : List Bound) (under : found ≡ filter (is_under (port + 1)) ports) (ordered : are_ordered found ≡ true) where
    all-ordered : are_ordered (filter (is_under (port + 1)) ports) ≡ true
    all-ordered = ap are_ordered (sym under) ∙ ordered

    -- the first of the port that a datagram is for is the first of all
    pub first-for : (dst src : Ip4) (sport : ℕ) (o : Option Bound) → o ≡ find (λ (b : Bound). passes_at (qualifies dst port src sport) now b.place) found
        → option_map (λ (b : Bound). b.place) o ≡ socket_for dst port src sport now
    first-for dst src sport o is =
        ap (option_map (λ (b : Bound). b.place)) (is ∙ ap (find (λ (b : Bound). passes_at (qualifies dst port src sport) now b.place)) under)
        ∙ first-told names ports now kept-now (port + 1) (qualifies dst port src sport) only all-ordered
      where
        only : (s : SocketOf HalfId) → qualifies dst port src sport s ≡ true → (port_number s.port == port + 1) ≡ true
        only s is = port-alone port s.port (and_parts (is_port port s.port) _ (and_parts (conflicts (Some dst) port s) _ is).0).0

    -- a port is free at an address where no other of the port is in conflict
    pub free-at : (name : List ℕ) (ip : Option Ip4) (taken : Bool) → taken ≡ list_any (λ (b : Bound). passes_at (λ s. not (is_named name s) && conflicts ip port s) now b.place) found
        → not taken ≡ is_port_free ip port (others name now)
    free-at name ip taken is =
        ap not (is ∙ ap (list_any (λ (b : Bound). passes_at (λ s. not (is_named name s) && conflicts ip port s) now b.place)) under
        ∙ any-told names ports now kept-now (port + 1) (λ s. not (is_named name s) && conflicts ip port s) only all-ordered
        ∙ sym (any-filter (λ (s : SocketOf HalfId). not (is_named name s)) (conflicts ip port) now))
      where
        only : (s : SocketOf HalfId) → (not (is_named name s) && conflicts ip port s) ≡ true → (port_number s.port == port + 1) ≡ true
        only s is = port-alone port s.port (and_parts (is_port port s.port) _ (and_parts (not (is_named name s)) _ is).1).0

    sent-under : (src dst : Ip4) (dport : ℕ) (s : SocketOf HalfId) → has_sent src port dst dport s ≡ true → (port_number s.port == port + 1) ≡ true
    sent-under src dst dport s is = port-alone port s.port (and_parts (is_ip src s.ip) _ (and_parts (is_ip src s.ip && is_port port s.port) _ is).0).1

    -- a datagram from the port was the own of one of all where it was of one of the port
    pub sent-by : (src dst : Ip4) (dport : ℕ) (sent : Bool) → sent ≡ list_any (λ (b : Bound). passes_at (has_sent src port dst dport) now b.place) found → sent ≡ has_sender src port dst dport now
    sent-by src dst dport sent is =
        is ∙ ap (list_any (λ (b : Bound). passes_at (has_sent src port dst dport) now b.place)) under
        ∙ any-told names ports now kept-now (port + 1) (has_sent src port dst dport) (sent-under src dst dport) all-ordered

    -- and the first of the port that is to be refused is the first of all
    pub first-refused : (src dst : Ip4) (dport : ℕ) (o : Option Bound) → o ≡ find (λ (b : Bound). passes_at (is_to_refuse src port dst dport) now b.place) found
        → option_map (λ (b : Bound). b.place) o ≡ position (is_to_refuse src port dst dport) now
    first-refused src dst dport o is =
        ap (option_map (λ (b : Bound). b.place)) (is ∙ ap (find (λ (b : Bound). passes_at (is_to_refuse src port dst dport) now b.place)) under)
        ∙ first-told names ports now kept-now (port + 1) (is_to_refuse src port dst dport)
        (λ s is. sent-under src dst dport s (and_parts (has_sent src port dst dport s) _ is).0) all-ordered
