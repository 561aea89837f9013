-- The commands on sockets, and what comes to them, leave a stack sound.
use Rattle.std.proofs.Common.{◌≡◌, ℕ, Bool, true, false, cond, not, ◌&&◌, ◌||◌, ◌==◌, List, [], ◌∷◌, length, Option, Some, None, refl, sym, ap, ◌∙◌}
use Rattle.std.specs.Prelude.{Ok, is_some, is_none, nat_le}
use Rattle.std.specs.List.{list_any}
use Rattle.std.specs.Option.{option_or, option_map_or}
use Rattle.std.specs.Str.{bytes_eq}
use Rattle.std.proofs.lemmas.Bool.{and_parts, and_from, or_from, or_right, not-false}
use Rattle.std.proofs.lemmas.Bool.Decides.{same_from_decides, Decides-like}
use Rattle.std.proofs.lemmas.Slice.Eq.{bytes_eq-Decides}
use Rattle.vn_types.specs.declared.address.Ip4.{Ip4}
use Rattle.vn_types.specs.Refusals.{first_refusal}
use Rattle.vn_rules.specs.declared.socket.Peer.{Peer}
use Rattle.vn_rules.specs.declared.socket.SocketOf.{SocketOf}
use Rattle.vn_rules.specs.declared.socket.TheConstants.{RECEIVED_MAX}
use Rattle.vn_rules.specs.declared.parts.PartsOf.{PartsOf}
use Rattle.vn_rules.specs.Addresses.{local}
use Rattle.vn_rules.specs.Interfaces.{queue_ifs}
use Rattle.vn_rules.specs.Orders.{is_socket}
use Rattle.vn_rules.specs.Ports.{overlaps, is_port, conflicts, are_in_conflict, is_port_free, automatic_port}
use Rattle.vn_rules.specs.Sockets.{is_named, socket_named, others, new_socket, after_open, port_asked, after_bind, port_at, connected, after_connect, after_close, after_sent}
use Rattle.vn_rules.specs.SocketRefusals.{open_refusals, bind_refusals, connect_refusals}
use Rattle.vn_rules.specs.Soundness.{is_bound_locally, times_arp, is_sound_parts}
use Rattle.vn_rules.proofs.ListTests.{none_weaker, find_passes, distinct_push, all_push, distinct_filter, all_filter}
use Rattle.vn_rules.proofs.SocketEdits.{open_from_none, automatic-free, edited_right, found_right, found_apart}
use Rattle.vn_rules.proofs.SocketSound.{is_right, right_from_sound, sound_with_sockets}
use Rattle.vn_rules.proofs.SoundFacts.{are_own}

-- ---- a socket by itself

-- whether the peer, address and port of a socket go together
abbrev pub together : Option Peer → Option Ip4 → Option ℕ → Bool
together peer ip port = (is_none peer || is_some ip) && (is_none ip || is_some port)

-- one without a port has neither address nor peer
unset : (peer : Option Peer) (ip : Option Ip4) (port : Option ℕ) → together peer ip port ≡ true → is_some port ≡ false → (peer ≡ None) × (ip ≡ None)
unset None None port are fails = (refl, refl)
unset (Some peer) None port are fails = absurd (cc)
unset peer (Some ip) None are fails = let two = and_parts (is_none peer || true) false are in absurd (cc)
unset peer (Some ip) (Some port) are fails = absurd (cc)

bytes_eq-flip : (a b : List ℕ) → bytes_eq a b ≡ bytes_eq b a
bytes_eq-flip a b = same_from_decides (bytes_eq a b) (bytes_eq b a) (bytes_eq-Decides a b) (Decides-like (bytes_eq b a) (λ e. sym e) (λ e. sym e) (bytes_eq-Decides b a))

is_some-none : {A : Type 0} (o : Option A) → is_none o ≡ false → (x : A) × (o ≡ Some x)
is_some-none None fails = absurd (cc)
is_some-none (Some x) fails = (x, refl)

module _ {N : Type 0} (same : N → N → Bool) (p : PartsOf N) where
  -- the four tests of a socket by itself
  pub record Right (s : SocketOf N) : Type 0 where
    pub goes : together s.peer s.ip s.port ≡ true
    pub room : nat_le (length s.queue) RECEIVED_MAX ≡ true
    pub bound : is_bound_locally p s.ip ≡ true
    pub heard : are_own same (times_arp same) p (queue_ifs s) ≡ true

  pub right-parts : (s : SocketOf N) → is_right same p s ≡ true → Right s
  right-parts s is =
      let two = and_parts _ (are_own same (times_arp same) p (queue_ifs s)) is in
      let one = and_parts (is_socket s) (is_bound_locally p s.ip) two.0 in
      let three = and_parts (together s.peer s.ip s.port) (nat_le (length s.queue) RECEIVED_MAX) one.0 in
      record { goes = three.0; room = three.1; bound = one.1; heard = two.1 }

  pub right-from : (s : SocketOf N) → Right s → is_right same p s ≡ true
  right-from s f = and_from _ _ (and_from _ _ (and_from _ _ f.goes f.room) f.bound) f.heard

  -- ---- open, close

  pub after_open-sound : (name : List ℕ) → is_sound_parts same p ≡ true → first_refusal (open_refusals name p.sockets) ≡ None → is_sound_parts same (record p { sockets = after_open name p.sockets }) ≡ true
  after_open-sound name sound none =
      let right = right_from_sound same p sound in
      sound_with_sockets same p (after_open name p.sockets) sound (record {
        names = distinct_push _ (new_socket name) p.sockets right.names (apart p.sockets (is_new (socket_named name p.sockets) refl none));
        ports = distinct_push _ (new_socket name) p.sockets right.ports (free p.sockets);
        each = all_push (is_right same p) (new_socket name) p.sockets right.each refl;
      })
    where
      is_new : (o : Option (SocketOf N)) → socket_named name p.sockets ≡ o → first_refusal (open_refusals name p.sockets) ≡ None → socket_named name p.sockets ≡ None
      is_new None is none = is
      is_new (Some s) is none = absurd (let none' = rw is at none in cc)

      apart : (ss : List (SocketOf N)) → socket_named name ss ≡ None → list_any (λ (s : SocketOf N). bytes_eq s.name name) ss ≡ false
      apart [] none = refl
      apart (s ∷ ss) none = by (bytes_eq name s.name) refl none (apart ss)
        where
          by : (b : Bool) → bytes_eq name s.name ≡ b → cond b (Some s) (socket_named name ss) ≡ None → (socket_named name ss ≡ None → list_any (λ (s : SocketOf N). bytes_eq s.name name) ss ≡ false)
              → list_any (λ (s : SocketOf N). bytes_eq s.name name) (s ∷ ss) ≡ false
          by true is none more = absurd (cc)
          by false is none more = or_from _ _ (bytes_eq-flip s.name name ∙ is) (more none)

      free : (ss : List (SocketOf N)) → list_any (λ (s : SocketOf N). are_in_conflict s (new_socket name)) ss ≡ false
      free [] = refl
      free (s ∷ ss) = or_from _ _ (by s.port) (free ss)
        where
          by : (o : Option ℕ) → option_map_or (λ port. conflicts s.ip port (new_socket {N = N} name)) o false ≡ false
          by None = refl
          by (Some port) = refl

  pub after_close-sound : (name : List ℕ) → is_sound_parts same p ≡ true → is_sound_parts same (record p { sockets = after_close name p.sockets }) ≡ true
  after_close-sound name sound =
      let right = right_from_sound same p sound in
      sound_with_sockets same p (after_close name p.sockets) sound (record {
        names = distinct_filter (λ s. not (is_named name s)) _ p.sockets right.names;
        ports = distinct_filter (λ s. not (is_named name s)) _ p.sockets right.ports;
        each = all_filter (λ s. not (is_named name s)) (is_right same p) p.sockets right.each;
      })

  -- ---- bind

  -- a port that is asked for, or 0, where it is not refused
  asked_free : (ip : Option Ip4) (port : ℕ) (rest : List (SocketOf N)) → (not (port == 0) && not (is_port_free ip port rest)) ≡ false → ((port == 0) && is_none (automatic_port ip rest)) ≡ false
      → (q : ℕ) × (port_asked ip port rest ≡ Some q) × (list_any (conflicts ip q) rest ≡ false)
  asked_free ip port rest taken full = by (port == 0) taken full
    where
      clear : (b : Bool) → not (not b) ≡ false → b ≡ false
      clear true fails = cc
      clear false fails = refl

      by : (b : Bool) → (not b && not (is_port_free ip port rest)) ≡ false → (b && is_none (automatic_port ip rest)) ≡ false → (q : ℕ) × (cond b (automatic_port ip rest) (Some port) ≡ Some q) × (list_any (conflicts ip q) rest ≡ false)
      by true taken full = let found = is_some-none (automatic_port ip rest) full in (found.0, found.1, automatic-free ip rest found.0 found.1)
      by false taken full = (port, refl, clear _ taken)

  pub after_bind-sound : (name : List ℕ) (ip : Option Ip4) (port : ℕ) → is_sound_parts same p ≡ true → first_refusal (bind_refusals name ip port (is_bound_locally p ip) p.sockets) ≡ None
      → is_sound_parts same (record p { sockets = after_bind name ip port p.sockets }) ≡ true
  after_bind-sound name ip port sound none =
      let right = right_from_sound same p sound in
      let open' = open_from_none _ name p.sockets none in
      let s = open'.it in
      let parts = right-parts s (found_right same p name p.sockets s right open'.is) in
      let found = asked_free ip port (others name p.sockets) open'.none.1.1.0 open'.none.1.1.1.0 in
      sound_with_sockets same p (after_bind name ip port p.sockets) sound
      (edited_right same p name (λ t. record t { ip = ip; port = port_asked ip port (others name p.sockets) }) p.sockets s right open'.is (λ t. refl)
      (ap (λ o. list_any (λ t. option_map_or (λ q. conflicts ip q t) o false) (others name p.sockets)) found.1 ∙ found.2)
      (right-from (record s { ip = ip; port = port_asked ip port (others name p.sockets) }) (record {
        goes = goes s.peer (port_asked ip port (others name p.sockets)) found.0 (unset s.peer s.ip s.port parts.goes open'.none.0).0 found.1;
        room = parts.room;
        bound = not-false _ open'.none.1.0;
        heard = parts.heard;
      })))
    where
      goes : (peer : Option Peer) (o : Option ℕ) (q : ℕ) → peer ≡ None → o ≡ Some q → together peer ip o ≡ true
      goes peer o q none is = rw (none, is) (or_right (is_none ip) true refl)

  -- ---- connect

  -- the port that a socket has, or a free one, is free for it at an address that its own covers
  at_free : (own : Option Ip4) (s : SocketOf N) (rest : List (SocketOf N)) → ((b : Option Ip4) → overlaps b own ≡ true → overlaps b s.ip ≡ true) → list_any (are_in_conflict s) rest ≡ false
      → (q : ℕ) → option_or s.port (automatic_port own rest) ≡ Some q → list_any (conflicts own q) rest ≡ false
  at_free own s rest narrower apart q is = by s.port apart is
    where
      by : (o : Option ℕ) → list_any (λ t. option_map_or (λ port. conflicts s.ip port t) o false) rest ≡ false → option_or o (automatic_port own rest) ≡ Some q → list_any (conflicts own q) rest ≡ false
      by None apart is = automatic-free own rest q is
      by (Some port) apart is =
          let same : port ≡ q = cc in
          none_weaker (conflicts own q) (conflicts s.ip q) (λ t both. let two = and_parts (is_port q t.port) _ both in and_from _ _ two.0 (narrower t.ip two.1)) rest
          (ap (λ port. list_any (conflicts s.ip port) rest) (sym same) ∙ apart)

  named_so : (name : List ℕ) (s : SocketOf N) → socket_named name p.sockets ≡ Some s → name ≡ s.name
  named_so name s found = (bytes_eq-Decides name s.name).0 (find_passes (is_named name) p.sockets s found)

  pub after_connect-sound : (name : List ℕ) (ip : Ip4) (port : ℕ) (source : Ip4) → is_sound_parts same p ≡ true → local source p.addresses ≡ true
      → first_refusal (connect_refusals name port (Ok source) p.sockets) ≡ None → is_sound_parts same (record p { sockets = after_connect name ip port source p.sockets }) ≡ true
  after_connect-sound name ip port source sound here none =
      let right = right_from_sound same p sound in
      let open' = open_from_none _ name p.sockets none in
      let s = open'.it in
      let own : Option Ip4 = option_or s.ip (Some source) in
      let parts = right-parts s (found_right same p name p.sockets s right open'.is) in
      let found = is_some-none (port_at own s p.sockets) open'.none.1.1.1.1.0 in
      let same_name = named_so name s open'.is in
      let free = at_free own s (others name p.sockets) (narrower s.ip) (found_apart same p name p.sockets s right open'.is) found.0
      (ap (λ n. option_or s.port (automatic_port own (others n p.sockets))) same_name ∙ found.1) in
      sound_with_sockets same p (after_connect name ip port source p.sockets) sound
      (edited_right same p name (connected ip port source p.sockets) p.sockets s right open'.is (λ t. refl)
      (ap (λ o. list_any (λ t. option_map_or (λ q. conflicts own q t) o false) (others name p.sockets)) found.1 ∙ free)
      (right-from (connected ip port source p.sockets s) (record {
        goes = goes s.ip (port_at own s p.sockets) found.0 found.1;
        room = parts.room;
        bound = bound s.ip parts.bound;
        heard = parts.heard;
      })))
    where
      narrower : (own b : Option Ip4) → overlaps b (option_or own (Some source)) ≡ true → overlaps b own ≡ true
      narrower None None over = refl
      narrower None (Some b) over = refl
      narrower (Some own) b over = over

      goes : (own : Option Ip4) (o : Option ℕ) (q : ℕ) → o ≡ Some q → together (Some (record { ip = ip; port = port })) (option_or own (Some source)) o ≡ true
      goes None o q is = rw is refl
      goes (Some own) o q is = rw is refl

      bound : (own : Option Ip4) → is_bound_locally p own ≡ true → is_bound_locally p (option_or own (Some source)) ≡ true
      bound None is = here
      bound (Some own) is = is

  -- ---- send

  -- the port is the socket's own, or free for it
  pub after_sent-sound : (name : List ℕ) (port : ℕ) (s : SocketOf N) → is_sound_parts same p ≡ true → socket_named name p.sockets ≡ Some s → port_at s.ip s p.sockets ≡ Some port
      → is_sound_parts same (record p { sockets = after_sent name port p.sockets }) ≡ true
  after_sent-sound name port s sound found is =
      let right = right_from_sound same p sound in
      let parts = right-parts s (found_right same p name p.sockets s right found) in
      let free = at_free s.ip s (others name p.sockets) (λ b over. over) (found_apart same p name p.sockets s right found) port
      (ap (λ n. option_or s.port (automatic_port s.ip (others n p.sockets))) (named_so name s found) ∙ is) in
      sound_with_sockets same p (after_sent name port p.sockets) sound
      (edited_right same p name (λ t. record t { port = option_or t.port (Some port) }) p.sockets s right found (λ t. refl)
      (ap (λ o. list_any (λ t. option_map_or (λ q. conflicts s.ip q t) o false) (others name p.sockets)) (taken s.port is) ∙ free)
      (right-from (record s { port = option_or s.port (Some port) }) (record {
        goes = goes s.peer s.ip s.port parts.goes;
        room = parts.room;
        bound = parts.bound;
        heard = parts.heard;
      })))
    where
      taken : (o : Option ℕ) → option_or o (automatic_port s.ip (others s.name p.sockets)) ≡ Some port → option_or o (Some port) ≡ Some port
      taken None is = refl
      taken (Some q) is = is

      goes : (peer : Option Peer) (ip : Option Ip4) (o : Option ℕ) → together peer ip o ≡ true → together peer ip (option_or o (Some port)) ≡ true
      goes peer ip None are = and_from _ _ (and_parts (is_none peer || is_some ip) _ are).0 (or_right (is_none ip) true refl)
      goes peer ip (Some q) are = are
