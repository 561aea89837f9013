-- The sockets of a stack: one of a name, and what a change of one is to all.
use Rattle.std.proofs.Common.{◌≡◌, ℕ, ◌<◌, Bool, true, false, List, [], ◌∷◌, ◌++◌, length, map, get_or, set, Option, Some, None, refl, sym, ap, ap₂, subst, ◌∙◌, ◌==◌, ◌≢◌, ◌&&◌, ◌||◌, cond, arith}
use Rattle.std.specs.Prelude.{Result, Ok, Err, IfNone, IfOk, IfSome, OnOk, OnErr, slice_get, slice_set, MatchOption, is_some}
use Rattle.std.specs.Borrow.{Bor}
use Rattle.std.specs.Result.{is_err, result_ok}
use Rattle.std.specs.Option.{ForSome, option_map, option_map_or, option_or}
use Rattle.std.specs.List.{position, remove}
use Rattle.std.specs.Str.{bytes_eq}
use Rattle.std.proofs.lemmas.Bool.{and_parts, cond_both}
use Rattle.std.proofs.lemmas.Option.{get_or_from_slice_get, slice_get-get_or, slice_get-map}
use Rattle.std.proofs.lemmas.List.{length-map, map-append, map-set}
use Rattle.std.proofs.lemmas.Slice.Eq.{bytes_eq-Decides}
use Rattle.std.proofs.Math.Seq.{map-set_same}
use Rattle.vn_types.specs.declared.interface.HalfId.{HalfId}
use Rattle.vn_types.specs.declared.address.Ip4.{Ip4}
use Rattle.vn_types.specs.declared.errno.Errno.{Errno}
use Rattle.vn_rules.specs.declared.socket.Peer.{Peer}
use Rattle.vn_rules.specs.declared.socket.GramOf.{GramOf}
use Rattle.vn_rules.specs.declared.socket.SocketOf.{SocketOf}
use Rattle.vn_rules.specs.Orders.{are_distinct}
use Rattle.vn_rules.specs.Sockets.{after_connect, cleared, is_named, socket_named, on_socket, new_socket, others, is_queue_full, queued, is_ip, unbound, has_sent, port_at, connected}
use Rattle.vn_rules.proofs.ListTests.{both_pass, absent-none, distinct_weaker, find_passes, unchanged}
use Rattle.vn_sock.specs.declared.port_index.Bound.{Bound}
use Rattle.vn_sock.specs.Kept.{IsIndexed, are_named_apart, names_of, numbers_of, refused}
use Rattle.vn_sock.specs.Names.{moved, told, unmoved}
use Rattle.vn_sock.specs.Ports.{has, port_number}
use Rattle.vn_sock.proofs.Indexed.{closed, opened, rebound, same-name}
use Rattle.vn_sock.proofs.PlaceEdits.{first-is-position, first-none, map-removed, removed-is}
use Rattle.vn_sock.proofs.PortFinds.{are-apart, told-place}
use Rattle.vn_sock.proofs.Places.{found-at, not-found, place-is, IsPlace, edited-at, stands}

-- ---- names

-- at most one has a name
pub one-of-name : (name : List ℕ) (sockets : List (SocketOf HalfId)) → are_named_apart sockets ≡ true → are_distinct (both_pass (is_named name)) sockets ≡ true
one-of-name name sockets apart = distinct_weaker (λ (s : SocketOf HalfId) (t : SocketOf HalfId). bytes_eq s.name t.name) (both_pass (is_named name)) by sockets apart
  where
    by : (s t : SocketOf HalfId) → both_pass (is_named name) s t ≡ true → bytes_eq s.name t.name ≡ true
    by s t both =
        let two = and_parts (bytes_eq name s.name) _ both in
        (bytes_eq-Decides s.name t.name).1 (sym (same-name name s.name two.0) ∙ same-name name t.name two.1)

-- where none has the name, it has no place
nowhere : (name : List ℕ) (xs : List (SocketOf HalfId)) → socket_named name xs ≡ None → position (is_named name) xs ≡ None
nowhere name xs none = sym (first-is-position (is_named name) xs) ∙ first-none (is_named name) xs (absent-none (is_named name) xs none)

-- ---- edits that leave names and ports

kept-alike : (names : List (List ℕ × ℕ)) (ports : List Bound) (texts texts_next : List (List ℕ)) (numbers numbers_next : List ℕ) → texts_next ≡ texts → numbers_next ≡ numbers
    → IsIndexed names ports texts numbers → IsIndexed names ports texts_next numbers_next
kept-alike names ports texts texts_next numbers numbers_next same alike kept =
    subst (λ a. IsIndexed names ports a numbers_next) (sym same) (subst (λ b. IsIndexed names ports texts b) (sym alike) kept)

map-map-same : {A B : Type 0} (f : A → B) (g : A → A) → ((x : A) → f (g x) ≡ f x) → (xs : List A) → map f (map g xs) ≡ map f xs
map-map-same f g same [] = refl
map-map-same f g same (x ∷ xs) = ap₂ (λ y ys. y ∷ ys) (same x) (map-map-same f g same xs)

module _ (names : List (List ℕ × ℕ)) (ports : List Bound) (xs : List (SocketOf HalfId)) (kept : IsIndexed names ports (names_of xs) (numbers_of xs)) where
  -- one is put in place of another, and is as that one changed, which kept its name and port
  pub kept-there : (k : ℕ) (s t u : SocketOf HalfId) → s ≡ get_or xs k s → t ≡ u → u.name ≡ s.name → u.port ≡ s.port → IsIndexed names ports (names_of (set xs k t)) (numbers_of (set xs k t))
  kept-there k s t u at is name port =
      kept-alike names ports (names_of xs) (names_of (set xs k t)) (numbers_of xs) (numbers_of (set xs k t))
      (map-set_same (λ (v : SocketOf HalfId). v.name) xs k t s (ap (λ (v : SocketOf HalfId). v.name) is ∙ name ∙ ap (λ (v : SocketOf HalfId). v.name) at))
      (map-set_same (λ (v : SocketOf HalfId). port_number v.port) xs k t s (ap port_number (ap (λ (v : SocketOf HalfId). v.port) is ∙ port ∙ ap (λ (v : SocketOf HalfId). v.port) at))) kept

  -- each is changed, and keeps name and port
  pub kept-all : (f : SocketOf HalfId → SocketOf HalfId) → ((s : SocketOf HalfId) → ((f s).name ≡ s.name) × ((f s).port ≡ s.port)) → (ys : List (SocketOf HalfId)) → ys ≡ map f xs
      → IsIndexed names ports (names_of ys) (numbers_of ys)
  kept-all f same ys is =
      kept-alike names ports (names_of xs) (names_of ys) (numbers_of xs) (numbers_of ys)
      (ap names_of is ∙ map-map-same (λ (u : SocketOf HalfId). u.name) f (λ s. (same s).0) xs)
      (ap numbers_of is ∙ map-map-same (λ (u : SocketOf HalfId). port_number u.port) f (λ s. ap port_number (same s).1) xs) kept

  -- one is put in place of another of its name, and stands under its own port
  pub rebound-there : (bound_next : List Bound) (k : ℕ) (s t : SocketOf HalfId) → k < length xs → s ≡ get_or xs k s → t.name ≡ s.name
      → ((q : ℕ) → has q k bound_next ≡ (port_number t.port == q)) → ((q j : ℕ) → j ≢ k → has q j bound_next ≡ has q j ports) → IsIndexed names bound_next (names_of (set xs k t)) (numbers_of (set xs k t))
  rebound-there bound_next k s t less at name here others =
      kept-alike names bound_next (names_of xs) (names_of (set xs k t)) (set (numbers_of xs) k (port_number t.port)) (numbers_of (set xs k t))
      (map-set_same (λ (u : SocketOf HalfId). u.name) xs k t s (name ∙ ap (λ (u : SocketOf HalfId). u.name) at))
      (map-set (λ (u : SocketOf HalfId). port_number u.port) xs k t)
      (rebound names ports (names_of xs) (numbers_of xs) kept bound_next k (port_number t.port) (let many : length (numbers_of xs) ≡ length xs = length-map xs (λ (u : SocketOf HalfId). port_number u.port) in omega arith) here others)

  -- what stands there, stands under its own port alone
  pub stands-under : (k : ℕ) (s : SocketOf HalfId) → k < length xs → s ≡ get_or xs k s → (q : ℕ) → has q k ports ≡ (port_number s.port == q)
  stands-under k s less at q =
      kept.bound q k ∙ ap (λ o. option_map_or (λ n. n == q) o false)
      (slice_get-map (λ (u : SocketOf HalfId). port_number u.port) xs k ∙ ap (option_map (λ (u : SocketOf HalfId). port_number u.port)) (slice_get-get_or xs k s less ∙ ap Some (sym at)))

  -- one more, the last
  pub opened-last : (told_next : List (List ℕ × ℕ)) (bound_next : List Bound) (name : List ℕ) (n : ℕ) → length xs ≡ n → socket_named name xs ≡ None
      → ((q : List ℕ) → told q told_next ≡ cond (bytes_eq name q) (Some n) (told q names)) → ((q k : ℕ) → has q k bound_next ≡ (((0 == q) && (n == k)) || has q k ports))
      → IsIndexed told_next bound_next (names_of (xs ++ new_socket name ∷ [])) (numbers_of (xs ++ new_socket name ∷ []))
  opened-last told_next bound_next name n many none told_is bound_is =
      kept-alike told_next bound_next (names_of xs ++ name ∷ []) (names_of (xs ++ new_socket name ∷ [])) (numbers_of xs ++ 0 ∷ []) (numbers_of (xs ++ new_socket name ∷ []))
      (map-append (λ (u : SocketOf HalfId). u.name) xs (new_socket name ∷ [])) (map-append (λ (u : SocketOf HalfId). port_number u.port) xs (new_socket name ∷ []))
      (opened names ports (names_of xs) (numbers_of xs) kept told_next bound_next name n (length-map xs (λ (u : SocketOf HalfId). u.name) ∙ many)
      (length-map xs (λ (u : SocketOf HalfId). port_number u.port) ∙ many) (told-place names ports xs kept name ∙ nowhere name xs none) told_is bound_is)

  -- the one of a name is gone
  pub closed-there : (told_next : List (List ℕ × ℕ)) (bound_next : List Bound) (name : List ℕ) (k : ℕ) → Some k ≡ position (is_named name) xs
      → ((q : List ℕ) → told q told_next ≡ cond (bytes_eq name q) None (option_map (moved k) (told q names))) → ((q j : ℕ) → has q j bound_next ≡ has q (unmoved k j) ports)
      → IsIndexed told_next bound_next (names_of (remove xs k)) (numbers_of (remove xs k))
  closed-there told_next bound_next name k place told_is bound_is =
      kept-alike told_next bound_next (remove (names_of xs) k) (names_of (remove xs k)) (remove (numbers_of xs) k) (numbers_of (remove xs k))
      (map-removed (λ (u : SocketOf HalfId). u.name) xs k) (map-removed (λ (u : SocketOf HalfId). port_number u.port) xs k)
      (closed names ports (names_of xs) (numbers_of xs) kept told_next bound_next name k (told-place names ports xs kept name ∙ sym place) told_is bound_is)

  -- and all others are left
  pub others-left : (name : List ℕ) (k : ℕ) → Some k ≡ position (is_named name) xs → remove xs k ≡ others name xs
  others-left name k place =
      removed-is (is_named name) xs k (one-of-name name xs (are-apart names ports xs kept)) (first-is-position (is_named name) xs ∙ sym place)

-- ---- one of a name

pub unbound-name : (ip : Ip4) (s : SocketOf HalfId) → (unbound ip s).name ≡ s.name
unbound-name ip s = cond_both (is_ip ip s.ip) (record s { ip = None; port = None; peer = None }) s (λ u. u.name ≡ s.name) (λ e. refl) (λ e. refl)

pub refused-same : (src : Ip4) (sport : ℕ) (dst : Ip4) (dport : ℕ) (s : SocketOf HalfId) → ((refused src sport dst dport s).name ≡ s.name) × ((refused src sport dst dport s).port ≡ s.port)
refused-same src sport dst dport s =
    cond_both (has_sent src sport dst dport s) (record s { refused = true }) s (λ u. (u.name ≡ s.name) × (u.port ≡ s.port)) (λ e. (refl, refl)) (λ e. (refl, refl))

pub queued-same : (g : GramOf HalfId) (s : SocketOf HalfId) → ((queued g s).name ≡ s.name) × ((queued g s).port ≡ s.port)
queued-same g s = cond_both (is_queue_full s) s (record s { queue = s.queue ++ g ∷ [] }) (λ u. (u.name ≡ s.name) × (u.port ≡ s.port)) (λ e. (refl, refl)) (λ e. (refl, refl))

-- ---- what is found

-- where none has the name, nothing is changed
pub absent : (name : List ℕ) (f : SocketOf HalfId → SocketOf HalfId) (sockets : List (SocketOf HalfId)) → socket_named name sockets ≡ None → sockets ≡ on_socket name f sockets
absent name f sockets none = sym (unchanged (is_named name) f sockets (absent-none (is_named name) sockets none))

pub match-place : (name : List ℕ) (sockets : List (SocketOf HalfId)) (r : Option ℕ) → r ≡ position (is_named name) sockets
    → MatchOption r (socket_named name sockets ≡ None) (λ k. slice_get sockets k ≡ socket_named name sockets)
match-place name sockets None is = not-found (is_named name) sockets is
match-place name sockets (Some k) is = found-at (is_named name) sockets k is

pub found-name : (name : List ℕ) (sockets : List (SocketOf HalfId)) (s : SocketOf HalfId) → socket_named name sockets ≡ Some s → s.name ≡ name
found-name name sockets s found = sym (same-name name s.name (find_passes (is_named name) sockets s found))

-- where a look-up finds nothing, there is nothing
pub named-none : (name : List ℕ) (sockets : List (SocketOf HalfId)) (r : Option (Bor (SocketOf HalfId)))
    → MatchOption r (socket_named name sockets ≡ None) (λ s. (socket_named name sockets ≡ Some s.now) × (s.now.name ≡ name))
    → is_some r ≡ false → socket_named name sockets ≡ None
named-none name sockets None none is = none
named-none name sockets (Some s) found is = absurd (cc)

pub match-within : (test : SocketOf HalfId → Bool) (sockets : List (SocketOf HalfId)) (r : Option ℕ) → r ≡ position test sockets → IfSome r (λ k. k < length sockets)
match-within test sockets None is = tt
match-within test sockets (Some k) is = IsPlace.within (place-is test sockets k is)

-- where none has the name, there is no error to clear
pub match-cleared : (name : List ℕ) (sockets : List (SocketOf HalfId)) (r : Option ℕ) → r ≡ position (is_named name) sockets → IfNone r (sockets ≡ cleared name sockets)
match-cleared name sockets None is = absent name (λ s. record s { refused = false }) sockets (not-found (is_named name) sockets is)
match-cleared name sockets (Some k) is = tt

-- what stands at a place within
pub at-place : (xs now : List (SocketOf HalfId)) (k : ℕ) (s : SocketOf HalfId) → xs ≡ now → k < length now → s ≡ get_or xs k s → slice_get now k ≡ Some s
at-place xs now k s view less at = slice_get-get_or now k s less ∙ ap Some (ap (λ (l : List (SocketOf HalfId)). get_or l k s) (sym view) ∙ sym at)

module _ (name : List ℕ) (xs now : List (SocketOf HalfId)) (k : ℕ) (s : SocketOf HalfId) (view : xs ≡ now) (place : Some k ≡ position (is_named name) now) (at : s ≡ get_or xs k s) where
  -- the socket at the place of the name is the one of the name
  pub found-there : socket_named name now ≡ Some s
  found-there = sym (found-at (is_named name) now k place) ∙ at-place xs now k s view (IsPlace.within (place-is (is_named name) now k place)) at

  -- and is no other
  pub found-alike : (t : SocketOf HalfId) → socket_named name now ≡ Some t → s ≡ t
  found-alike t is = let both : Some s ≡ Some t = sym found-there ∙ is in cc

  -- to change it there is to change the socket of the name
  pub changed-there : (f : SocketOf HalfId → SocketOf HalfId) (t : SocketOf HalfId) → are_named_apart xs ≡ true → t ≡ f s → set xs k t ≡ on_socket name f now
  changed-there f t apart is =
      ap (λ u. set xs k u) (is ∙ ap f at) ∙ edited-at (is_named name) f xs k s (one-of-name name xs apart) (place ∙ ap (position (is_named name)) (sym view)) ∙ ap (on_socket name f) view

-- what was put at the place of a name is the change of the socket of that name
pub settled-there : (name : List ℕ) (now new : List (SocketOf HalfId)) (k : ℕ) (f g : SocketOf HalfId → SocketOf HalfId) → are_named_apart now ≡ true → Some k ≡ position (is_named name) now
    → IfSome (slice_get now k) (λ s. new ≡ slice_set now k (g s)) → ((s : SocketOf HalfId) → socket_named name now ≡ Some s → g s ≡ f s) → new ≡ on_socket name f now
settled-there name now new k f g apart place settled alike = by (slice_get now k) refl settled
  where
    by : (o : Option (SocketOf HalfId)) → slice_get now k ≡ o → IfSome o (λ s. new ≡ slice_set now k (g s)) → new ≡ on_socket name f now
    by None none settled = absurd (stands now k (IsPlace.within (place-is (is_named name) now k place)) none)
    by (Some s) is settled =
        settled ∙ ap (slice_set now k) (alike s (sym (found-at (is_named name) now k place) ∙ is))
        ∙ ap (λ u. slice_set now k (f u)) (sym (get_or_from_slice_get now k s s is)) ∙ edited-at (is_named name) f now k s (one-of-name name now apart) place

-- ---- answers

pub on_ok : {T E P Q : Type 0} (r : Result T E) → (P → Q) → OnOk r P → OnOk r Q
on_ok (Ok x) so p = so p
on_ok (Err e) so p = tt

pub on_err : {T E P Q : Type 0} (r : Result T E) → (P → Q) → OnErr r P → OnErr r Q
on_err (Ok x) so p = tt
on_err (Err e) so p = so p

-- what a test for an error tells
pub err-kept : {T E P : Type 0} (r : Result T E) → is_err r ≡ true → OnErr r P → P
err-kept (Ok x) is p = absurd (cc)
err-kept (Err e) is p = p

pub ok-done : {T E P : Type 0} (r : Result T E) → is_err r ≡ false → OnOk r P → P
ok-done (Ok x) is p = p
ok-done (Err e) is p = absurd (cc)

pub if_ok : {T E : Type 0} {P Q : T → Type 0} (r : Result T E) → ((x : T) → P x → Q x) → IfOk r P → IfOk r Q
if_ok (Ok x) so p = so x p
if_ok (Err e) so p = tt

-- the end that was chosen for a socket is the one that it has once it is connected
pub connected-as : (now : List (SocketOf HalfId)) (s t : SocketOf HalfId) (peer : Peer) (source : Result Ip4 Errno) (end : Option Ip4 × ℕ)
    → (end.0 ≡ option_or s.ip (result_ok source)) × (port_at end.0 s now ≡ Some end.1)
    → t ≡ record s { ip = end.0; port = Some end.1; peer = Some peer } → IfOk source (λ own. t ≡ connected peer.ip peer.port own now s)
connected-as now s t peer (Err e) end chosen is = tt
connected-as now s t peer (Ok own) end chosen is =
    is ∙ ap (λ p. record s { ip = end.0; port = p; peer = Some peer }) (sym chosen.1)
    ∙ ap (λ a. record s { ip = a; port = port_at a s now; peer = Some peer }) chosen.0

-- and is so at the place of its name
pub connected-there : (name : List ℕ) (now new : List (SocketOf HalfId)) (k : ℕ) (peer : Peer) (source : Result Ip4 Errno) (end : Option Ip4 × ℕ) → are_named_apart now ≡ true → Some k ≡ position (is_named name) now
    → IfSome (slice_get now k) (λ s. new ≡ slice_set now k (record s { ip = end.0; port = Some end.1; peer = Some peer }))
    → ForSome (socket_named name now) (λ s. (end.0 ≡ option_or s.ip (result_ok source)) × (port_at end.0 s now ≡ Some end.1))
    → IfOk source (λ own. new ≡ after_connect name peer.ip peer.port own now)
connected-there name now new k peer (Err e) end apart place settled chosen = tt
connected-there name now new k peer (Ok own) end apart place settled chosen =
    settled-there name now new k (connected peer.ip peer.port own now) (λ s. record s { ip = end.0; port = Some end.1; peer = Some peer }) apart place settled
    (λ s is. connected-as now s (record s { ip = end.0; port = Some end.1; peer = Some peer }) peer (Ok own) end (chosen s is) refl)
