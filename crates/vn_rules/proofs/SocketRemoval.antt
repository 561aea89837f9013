-- Sockets lose an address, or the datagrams that came by an interface: nothing new is named, the parts stay sound, and renaming goes through.
use Rattle.std.proofs.Common.{◌≡◌, ℕ, Option, Some, Bool, true, false, not, nat_le, length, List, [], ◌∷◌, map, None, refl, ap, ◌∙◌, arith, is_none, is_some, ◌&&◌, ◌||◌, sym}
use Rattle.std.specs.List.{list_all, filter}
use Rattle.std.specs.Str.{bytes_eq}
use Rattle.std.proofs.lemmas.Bool.{and_parts, and_from, cond_both, leb-true, le-leb, false≢true}
use Rattle.std.proofs.lemmas.List.Sums.{length-filter, count_by-le-length}
use Rattle.vn_types.specs.declared.address.Ip4.{Ip4}
use Rattle.vn_types.specs.declared.interface.IfOf.{IfOf}
use Rattle.vn_types.specs.Interfaces.{if_same, as_if}
use Rattle.vn_types.proofs.InterfaceNames.{if_same-as_if}
use Rattle.vn_types.proofs.ListMaps.{filter_map_same}
use Rattle.vn_rules.specs.declared.socket.GramOf.{GramOf}
use Rattle.vn_rules.specs.declared.socket.SocketOf.{SocketOf}
use Rattle.vn_rules.specs.declared.socket.TheConstants.{RECEIVED_MAX}
use Rattle.vn_rules.specs.declared.parts.PartsOf.{PartsOf}
use Rattle.vn_rules.specs.Orders.{is_socket}
use Rattle.vn_rules.specs.Renamed.{as_gram, as_socket, renamed}
use Rattle.vn_rules.specs.Sockets.{is_ip, unbound, unbound_from, unheard, without_grams_by}
use Rattle.vn_rules.specs.Soundness.{is_bound_locally, times_arp, is_sound_parts}
use Rattle.std.specs.Option.{option_map_or}
use Rattle.std.proofs.lemmas.List.Folds.{list_all-map}
use Rattle.vn_rules.specs.Interfaces.{queue_ifs, is_among}
use Rattle.vn_rules.specs.Ports.{conflicts, are_in_conflict}
use Rattle.vn_rules.proofs.Kept.{all_passed}
use Rattle.vn_rules.proofs.ListTests.{all_filter, all_map_kept, distinct_map_same, distinct_weaker}
use Rattle.vn_rules.proofs.Renaming.{cond-renamed, map_square}
use Rattle.vn_rules.proofs.Named.{NamesPass, with_sockets-names}
use Rattle.vn_rules.proofs.SoundFacts.{are_own}
use Rattle.vn_rules.proofs.SocketSound.{is_right, AreRight, right_from_sound, sound_with_sockets, right_kept}

-- ---- an address that is lost

module _ {N : Type 0} (ip : Ip4) where
  abbrev loose : SocketOf N → SocketOf N
  loose s = record s { ip = None; port = None; peer = None }

  unbound_name : (s : SocketOf N) → (unbound ip s).name ≡ s.name
  unbound_name s = cond_both (is_ip ip s.ip) (loose s) s (λ k. k.name ≡ s.name) (λ e. refl) (λ e. refl)

  unbound_queue : (s : SocketOf N) → (unbound ip s).queue ≡ s.queue
  unbound_queue s = cond_both (is_ip ip s.ip) (loose s) s (λ k. k.queue ≡ s.queue) (λ e. refl) (λ e. refl)

  module _ (p : PartsOf N) where
    pub unbound_from-names : (t : IfOf N → Bool) → NamesPass t p → NamesPass t (unbound_from ip p)
    unfolding unbound_from
    unbound_from-names t pass = with_sockets-names t p (map (unbound ip) p.sockets) pass
        (all_map_kept (unbound ip) (λ s. list_all (λ (g : GramOf N). t g.via) s.queue) (λ s. list_all (λ (g : GramOf N). t g.via) s.queue)
        (λ s pass. ap (list_all (λ (g : GramOf N). t g.via)) (unbound_queue s) ∙ pass) p.sockets pass.grams)

    -- no socket has the address
    pub unbound_from-passed : list_all (λ (s : SocketOf N). not (is_ip ip s.ip)) (unbound_from ip p).sockets ≡ true
    unfolding unbound_from
    unbound_from-passed = all_map_kept (unbound ip) (λ s. true) (λ s. not (is_ip ip s.ip))
        (λ s _. cond_both (is_ip ip s.ip) (loose s) s (λ k. not (is_ip ip k.ip) ≡ true) (λ e. refl) (λ e. ap not e)) p.sockets (always p.sockets)
      where
        always : (ss : List (SocketOf N)) → list_all (λ s. true) ss ≡ true
        always [] = refl
        always (s ∷ ss) = always ss

    pub unbound_from-sound : (same : N → N → Bool) → is_sound_parts same p ≡ true → is_sound_parts same (unbound_from ip p) ≡ true
    unfolding unbound_from
    unbound_from-sound same sound = sound_with_sockets same p (map (unbound ip) p.sockets) sound (record {
      names = distinct_map_same (unbound ip) _ _ (λ a b. λ i. bytes_eq (unbound_name a i) (unbound_name b i)) p.sockets ∙ right.names;
      ports = distinct_map_same (unbound ip) (λ a b. are_in_conflict (unbound ip a) (unbound ip b)) are_in_conflict (λ a b. refl) p.sockets
          ∙ distinct_weaker are_in_conflict (λ a b. are_in_conflict (unbound ip a) (unbound ip b)) in_conflict p.sockets right.ports;
      each = all_map_kept (unbound ip) (is_right same p) (is_right same p) one p.sockets right.each;
    })
      where
        right : AreRight same p p.sockets
        right = right_from_sound same p sound

        loose_right : (s : SocketOf N) → is_right same p s ≡ true → is_right same p (loose s) ≡ true
        loose_right s is =
            let parts = and_parts _ (are_own same (times_arp same) p (queue_ifs s)) is in
            let socket = and_parts (is_socket s) (is_bound_locally p s.ip) parts.0 in
            let short = and_parts ((is_none s.peer || is_some s.ip) && (is_none s.ip || is_some s.port)) (nat_le (length s.queue) RECEIVED_MAX) socket.0 in
            rw (short.1, parts.1) refl

        one : (s : SocketOf N) → is_right same p s ≡ true → is_right same p (unbound ip s) ≡ true
        one s is = cond_both (is_ip ip s.ip) (loose s) s (λ k. is_right same p k ≡ true) (λ e. loose_right s is) (λ e. is)

        apart_left : (a b : SocketOf N) → are_in_conflict (loose a) b ≡ false
        apart_left a b = refl

        apart_right : (a b : SocketOf N) (port : Option ℕ) → option_map_or (λ port. conflicts a.ip port (loose b)) port false ≡ false
        apart_right a b None = refl
        apart_right a b (Some n) = refl

        in_conflict : (a b : SocketOf N) → are_in_conflict (unbound ip a) (unbound ip b) ≡ true → are_in_conflict a b ≡ true
        in_conflict a b =
            cond_both (is_ip ip a.ip) (loose a) a (λ k. are_in_conflict k (unbound ip b) ≡ true → are_in_conflict a b ≡ true)
            (λ e f. absurd (false≢true f))
            (λ e. cond_both (is_ip ip b.ip) (loose b) b (λ k. are_in_conflict a k ≡ true → are_in_conflict a b ≡ true)
            (λ e f. absurd (false≢true (sym (apart_right a b a.port) ∙ f))) (λ e f. f))

module _ {N M : Type 0} (r : N → M) (ip : Ip4) where
  pub unbound_from-renamed : (p : PartsOf N) → unbound_from ip (renamed r p) ≡ renamed r (unbound_from ip p)
  unfolding unbound_from renamed
  unbound_from-renamed p i = record (renamed r p) { sockets = map_square (as_socket r) (unbound ip) (unbound ip) (as_socket r) one p.sockets i }
    where
      one : (s : SocketOf N) → unbound ip (as_socket r s) ≡ as_socket r (unbound ip s)
      one s = cond-renamed (as_socket r) (loose ip s) s (is_ip ip s.ip)

-- ---- datagrams of an interface

module _ {N : Type 0} (same : N → N → Bool) (via : IfOf N) where
  abbrev stays : GramOf N → Bool
  stays g = not (if_same same g.via via)

  module _ (p : PartsOf N) where
    pub without_grams_by-names : (t : IfOf N → Bool) → NamesPass t p → NamesPass t (without_grams_by same via p)
    unfolding without_grams_by
    without_grams_by-names t pass = with_sockets-names t p (map (unheard same via) p.sockets) pass
        (all_map_kept (unheard same via) (λ s. list_all (λ (g : GramOf N). t g.via) s.queue) (λ s. list_all (λ (g : GramOf N). t g.via) s.queue)
        (λ s pass. all_filter stays (λ (g : GramOf N). t g.via) s.queue pass) p.sockets pass.grams)

    -- none of them is left
    pub without_grams_by-passed : list_all (λ (s : SocketOf N). list_all stays s.queue) (without_grams_by same via p).sockets ≡ true
    unfolding without_grams_by
    without_grams_by-passed = by p.sockets
      where
        by : (ss : List (SocketOf N)) → list_all (λ (s : SocketOf N). list_all stays s.queue) (map (unheard same via) ss) ≡ true
        by [] = refl
        by (s ∷ ss) = and_from _ _ (all_passed stays s.queue) (by ss)

    shorter : (xs : List (GramOf N)) (n : ℕ) → nat_le (length xs) n ≡ true → nat_le (length (filter stays xs)) n ≡ true
    shorter xs n le = le-leb (length (filter stays xs)) n (omega (arith, length-filter stays xs, count_by-le-length stays xs, leb-true (length xs) n le))

    pub without_grams_by-sound : is_sound_parts same p ≡ true → is_sound_parts same (without_grams_by same via p) ≡ true
    unfolding without_grams_by
    without_grams_by-sound sound = sound_with_sockets same p (map (unheard same via) p.sockets) sound
        (right_kept same p (unheard same via) (λ s t. refl) (λ s t. refl) one p.sockets (right_from_sound same p sound))
      where
        one : (s : SocketOf N) → is_right same p s ≡ true → is_right same p (unheard same via s) ≡ true
        one s is =
            let parts = and_parts _ (are_own same (times_arp same) p (queue_ifs s)) is in
            let socket = and_parts (is_socket s) (is_bound_locally p s.ip) parts.0 in
            let short = and_parts ((is_none s.peer || is_some s.ip) && (is_none s.ip || is_some s.port)) (nat_le (length s.queue) RECEIVED_MAX) socket.0 in
            let own : are_own same (times_arp same) p (queue_ifs (unheard same via s)) ≡ true =
            list_all-map (is_among same p.interfaces) (λ (g : GramOf N). g.via) (filter stays s.queue)
            ∙ all_filter stays (λ (g : GramOf N). is_among same p.interfaces g.via) s.queue (sym (list_all-map (is_among same p.interfaces) (λ (g : GramOf N). g.via) s.queue) ∙ parts.1) in
            and_from _ _ (and_from _ _ (and_from _ _ short.0 (shorter s.queue RECEIVED_MAX short.1)) socket.1) own

module _ {N M : Type 0} (r : N → M) (at_n : N → N → Bool) (at_m : M → M → Bool) (faithful : (a b : N) → at_m (r a) (r b) ≡ at_n a b) (via : IfOf N) where
  pub without_grams_by-renamed : (p : PartsOf N) → without_grams_by at_m (as_if r via) (renamed r p) ≡ renamed r (without_grams_by at_n via p)
  unfolding without_grams_by renamed
  without_grams_by-renamed p i = record (renamed r p) { sockets = map_square (as_socket r) (unheard at_n via) (unheard at_m (as_if r via)) (as_socket r) one p.sockets i }
    where
      one : (s : SocketOf N) → unheard at_m (as_if r via) (as_socket r s) ≡ as_socket r (unheard at_n via s)
      one s i = record (as_socket r s) {
        queue = filter_map_same (as_gram r) (stays at_n via) (stays at_m (as_if r via)) (λ g. ap not (if_same-as_if r at_n at_m faithful g.via via)) s.queue i;
      }
