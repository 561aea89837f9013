-- What changes neither name nor port of a socket leaves a stack sound: settings, errors and datagrams.
use Rattle.std.proofs.Common.{◌≡◌, ℕ, ◌+◌, ◌-◌, Bool, true, false, cond, ◌&&◌, List, [], ◌∷◌, ◌++◌, map, drop, length, Some, refl, ap, ap₂, ◌∙◌, arith}
use Rattle.std.specs.Prelude.{nat_le}
use Rattle.std.specs.List.{list_all}
use Rattle.std.specs.Option.{option_map_or}
use Rattle.std.specs.Str.{bytes_eq}
use Rattle.std.proofs.lemmas.Bool.{and_parts, leb-false, le-leb, leb-true}
use Rattle.std.proofs.lemmas.List.{length_push, map-append, length-drop}
use Rattle.vn_types.specs.declared.address.Ip4.{Ip4}
use Rattle.vn_rules.specs.declared.socket.GramOf.{GramOf}
use Rattle.vn_rules.specs.declared.socket.SocketOf.{SocketOf}
use Rattle.vn_rules.specs.declared.socket.TheConstants.{RECEIVED_MAX}
use Rattle.vn_rules.specs.declared.parts.PartsOf.{PartsOf}
use Rattle.vn_rules.specs.Interfaces.{is_among}
use Rattle.vn_rules.specs.Ports.{overlaps, is_port, are_in_conflict}
use Rattle.vn_rules.specs.Sockets.{is_named, with_ttl, cleared, after_recv, is_queue_full, queued, with_gram, has_sent, refused_by}
use Rattle.vn_rules.specs.Soundness.{is_sound_parts}
use Rattle.vn_rules.proofs.ListTests.{all_placed, distinct_placed, all_push}
use Rattle.vn_rules.proofs.SocketKept.{right-parts, right-from}
use Rattle.vn_rules.proofs.SocketSound.{is_right, right_from_sound, sound_with_sockets, right_kept}

module _ {N : Type 0} (same : N → N → Bool) (p : PartsOf N) where
  -- a change that keeps what other sockets see, and leaves the socket right
  pub record IsHarmless (f : SocketOf N → SocketOf N) : Type 0 where
    pub name : (s : SocketOf N) → (f s).name ≡ s.name
    pub ip : (s : SocketOf N) → (f s).ip ≡ s.ip
    pub port : (s : SocketOf N) → (f s).port ≡ s.port
    pub each : (s : SocketOf N) → is_right same p s ≡ true → is_right same p (f s) ≡ true

  module _ (f : SocketOf N → SocketOf N) (harmless : IsHarmless f) where
    apart_left : (s t : SocketOf N) → are_in_conflict (f s) t ≡ are_in_conflict s t
    apart_left s t = λ i. option_map_or (λ port. is_port port t.port && overlaps t.ip (harmless.ip s i)) (harmless.port s i) false

    apart_right : (s t : SocketOf N) → are_in_conflict s (f t) ≡ are_in_conflict s t
    apart_right s t = λ i. option_map_or (λ port. is_port port (harmless.port t i) && overlaps (harmless.ip t i) s.ip) s.port false

    -- to the sockets that a test picks
    pub picked-sound : (pick : SocketOf N → Bool) → is_sound_parts same p ≡ true → is_sound_parts same (record p { sockets = map (λ s. cond (pick s) (f s) s) p.sockets }) ≡ true
    picked-sound pick sound =
        sound_with_sockets same p _ sound
        (right_kept same p (λ s. cond (pick s) (f s) s) (λ s t. ap₂ bytes_eq (names (pick s) s) (names (pick t) t)) (λ s t. apart (pick s) (pick t) s t) (λ s is. rights (pick s) s is) p.sockets
        (right_from_sound same p sound))
      where
        names : (b : Bool) (s : SocketOf N) → (cond b (f s) s).name ≡ s.name
        names true s = harmless.name s
        names false s = refl

        apart : (b c : Bool) (s t : SocketOf N) → are_in_conflict (cond b (f s) s) (cond c (f t) t) ≡ are_in_conflict s t
        apart true true s t = apart_left s (f t) ∙ apart_right s t
        apart true false s t = apart_left s t
        apart false true s t = apart_right s t
        apart false false s t = refl

        rights : (b : Bool) (s : SocketOf N) → is_right same p s ≡ true → is_right same p (cond b (f s) s) ≡ true
        rights true s is = harmless.each s is
        rights false s is = is

  -- ---- settings and errors

  pub with_ttl-sound : (name : List ℕ) (ttl : ℕ) → is_sound_parts same p ≡ true → is_sound_parts same (record p { sockets = with_ttl name ttl p.sockets }) ≡ true
  with_ttl-sound name ttl sound =
      picked-sound (λ s. record s { ttl = Some ttl }) (record { name = λ s. refl; ip = λ s. refl; port = λ s. refl; each = λ s is. is }) (is_named name) sound

  pub cleared-sound : (name : List ℕ) → is_sound_parts same p ≡ true → is_sound_parts same (record p { sockets = cleared name p.sockets }) ≡ true
  cleared-sound name sound =
      picked-sound (λ s. record s { refused = false }) (record { name = λ s. refl; ip = λ s. refl; port = λ s. refl; each = λ s is. is }) (is_named name) sound

  pub refused_by-sound : (src : Ip4) (sport : ℕ) (dst : Ip4) (dport : ℕ) → is_sound_parts same p ≡ true → is_sound_parts same (record p { sockets = refused_by src sport dst dport p.sockets }) ≡ true
  refused_by-sound src sport dst dport sound =
      picked-sound (λ s. record s { refused = true }) (record { name = λ s. refl; ip = λ s. refl; port = λ s. refl; each = λ s is. is }) (has_sent src sport dst dport) sound

  -- ---- datagrams

  pub after_recv-sound : (name : List ℕ) → is_sound_parts same p ≡ true → is_sound_parts same (record p { sockets = after_recv name p.sockets }) ≡ true
  after_recv-sound name sound =
      picked-sound (λ s. record s { queue = drop 1 s.queue }) (record { name = λ s. refl; ip = λ s. refl; port = λ s. refl; each = each }) (is_named name) sound
    where
      shorter : (gs : List (GramOf N)) → nat_le (length gs) RECEIVED_MAX ≡ true → nat_le (length (drop 1 gs)) RECEIVED_MAX ≡ true
      shorter gs room =
          let fits = leb-true (length gs) RECEIVED_MAX room in
          let less : length (drop 1 gs) ≡ length gs - 1 = length-drop 1 gs in
          le-leb (length (drop 1 gs)) RECEIVED_MAX (omega (arith, fits, less))

      heard : (gs : List (GramOf N)) → list_all (is_among same p.interfaces) (map (λ (g : GramOf N). g.via) gs) ≡ true → list_all (is_among same p.interfaces) (map (λ (g : GramOf N). g.via) (drop 1 gs)) ≡ true
      heard [] all = refl
      heard (g ∷ gs) all = (and_parts (is_among same p.interfaces g.via) _ all).1

      each : (s : SocketOf N) → is_right same p s ≡ true → is_right same p (record s { queue = drop 1 s.queue }) ≡ true
      each s is =
          let f = right-parts same p s is in
          right-from same p (record s { queue = drop 1 s.queue }) (record { goes = f.goes; room = shorter s.queue f.room; bound = f.bound; heard = heard s.queue f.heard })

  pub with_gram-sound : (place : ℕ) (g : GramOf N) → is_among same p.interfaces g.via ≡ true → is_sound_parts same p ≡ true → is_sound_parts same (record p { sockets = with_gram place g p.sockets }) ≡ true
  with_gram-sound place g via sound =
      let right = right_from_sound same p sound in
      sound_with_sockets same p (with_gram place g p.sockets) sound (record {
        names = distinct_placed (queued g) (λ (s : SocketOf N) (t : SocketOf N). bytes_eq s.name t.name) (λ s t. ap (λ n. bytes_eq n t.name) (names (is_queue_full s) s)) (λ s t. ap (bytes_eq s.name) (names (is_queue_full t) t)) place p.sockets ∙ right.names;
        ports = distinct_placed (queued g) are_in_conflict (λ s t. apart_left (queued g) harmless s t) (λ s t. apart_right (queued g) harmless s t) place p.sockets ∙ right.ports;
        each = all_placed (queued g) (is_right same p) each place p.sockets right.each;
      })
    where
      names : (b : Bool) (s : SocketOf N) → (cond b s (record s { queue = s.queue ++ g ∷ [] })).name ≡ s.name
      names true s = refl
      names false s = refl

      ips : (b : Bool) (s : SocketOf N) → (cond b s (record s { queue = s.queue ++ g ∷ [] })).ip ≡ s.ip
      ips true s = refl
      ips false s = refl

      ports : (b : Bool) (s : SocketOf N) → (cond b s (record s { queue = s.queue ++ g ∷ [] })).port ≡ s.port
      ports true s = refl
      ports false s = refl

      room : (gs : List (GramOf N)) → nat_le RECEIVED_MAX (length gs) ≡ false → nat_le (length (gs ++ g ∷ [])) RECEIVED_MAX ≡ true
      room gs open' =
          let less = leb-false RECEIVED_MAX (length gs) open' in
          let one : length (gs ++ g ∷ []) ≡ length gs + 1 = length_push gs g in
          le-leb (length (gs ++ g ∷ [])) RECEIVED_MAX (omega (arith, less, one))

      heard : (gs : List (GramOf N)) → list_all (is_among same p.interfaces) (map (λ (g : GramOf N). g.via) gs) ≡ true → list_all (is_among same p.interfaces) (map (λ (g : GramOf N). g.via) (gs ++ g ∷ [])) ≡ true
      heard gs all = ap (list_all (is_among same p.interfaces)) (map-append (λ (g : GramOf N). g.via) gs (g ∷ [])) ∙ all_push (is_among same p.interfaces) g.via (map (λ (g : GramOf N). g.via) gs) all via

      by : (b : Bool) (s : SocketOf N) → is_queue_full s ≡ b → is_right same p s ≡ true → is_right same p (cond b s (record s { queue = s.queue ++ g ∷ [] })) ≡ true
      by true s full is = is
      by false s full is =
          let f = right-parts same p s is in
          right-from same p (record s { queue = s.queue ++ g ∷ [] }) (record { goes = f.goes; room = room s.queue full; bound = f.bound; heard = heard s.queue f.heard })

      each : (s : SocketOf N) → is_right same p s ≡ true → is_right same p (queued g s) ≡ true
      each s is = by (is_queue_full s) s refl is

      harmless : IsHarmless (queued g)
      harmless = record { name = λ s. names (is_queue_full s) s; ip = λ s. ips (is_queue_full s) s; port = λ s. ports (is_queue_full s) s; each = each }
