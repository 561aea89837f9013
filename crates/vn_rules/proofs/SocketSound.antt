-- Sockets that are changed leave a stack sound, and at most one is for a datagram.
use Rattle.std.proofs.Common.{◌≡◌, Bool, true, ◌&&◌, List, [], ◌∷◌, map, refl, sym, ◌∙◌}
use Rattle.std.specs.List.{list_all}
use Rattle.std.specs.Str.{bytes_eq}
use Rattle.std.proofs.lemmas.Bool.{and_parts, and_from}
use Rattle.vn_rules.specs.declared.socket.SocketOf.{SocketOf}
use Rattle.vn_rules.specs.declared.parts.PartsOf.{PartsOf}
use Rattle.vn_rules.specs.Interfaces.{queue_ifs, is_among}
use Rattle.vn_rules.specs.Orders.{are_distinct, is_socket, are_sockets}
use Rattle.vn_rules.specs.Ports.{are_in_conflict}
use Rattle.vn_rules.specs.Soundness.{is_bound_locally, binds_locally, sends_locally, times_arp, covers_arp, founds_routes, is_sound_parts}
use Rattle.vn_rules.proofs.ListTests.{all_weaker, all_map_kept, all_flat_map, distinct_map_same}
use Rattle.vn_rules.proofs.Named.{with_sockets-names, all_queues, own_names}
use Rattle.vn_rules.proofs.SoundEdits.{tabled-sound}
use Rattle.vn_rules.proofs.SoundFacts.{are_own, facts_from_sound}

module _ {N : Type 0} (same : N → N → Bool) where
  -- what a sound stack asks of each socket by itself
  abbrev pub is_right : PartsOf N → SocketOf N → Bool
  is_right p s = is_socket s && is_bound_locally p s.ip && are_own same (times_arp same) p (queue_ifs s)

  abbrev names_apart : SocketOf N → SocketOf N → Bool
  names_apart s t = bytes_eq s.name t.name

  -- what a sound stack asks of its sockets
  pub record AreRight (p : PartsOf N) (sockets : List (SocketOf N)) : Type 0 where
    pub names : are_distinct (λ (s : SocketOf N) (t : SocketOf N). bytes_eq s.name t.name) sockets ≡ true
    pub ports : are_distinct are_in_conflict sockets ≡ true
    pub each : list_all (is_right p) sockets ≡ true

  module _ (p : PartsOf N) where
    pub right_from_sound : is_sound_parts same p ≡ true → AreRight p p.sockets
    unfolding binds_locally are_sockets
    right_from_sound sound =
        let f = facts_from_sound same (times_arp same) p sound in
        let s2 = and_parts _ (list_all is_socket p.sockets) f.sockets in
        let s1 = and_parts _ (are_distinct are_in_conflict p.sockets) s2.0 in
        let grams : list_all (λ s. are_own same (times_arp same) p (queue_ifs s)) p.sockets ≡ true = sym (all_flat_map (is_among same p.interfaces) queue_ifs p.sockets) ∙ f.gram_names in
        record { names = s1.0; ports = s1.1; each = three is_socket (λ (s : SocketOf N). is_bound_locally p s.ip) _ p.sockets s2.1 f.bound grams }
      where
        three : (a b c : SocketOf N → Bool) (xs : List (SocketOf N)) → list_all a xs ≡ true → list_all b xs ≡ true → list_all c xs ≡ true → list_all (λ x. a x && b x && c x) xs ≡ true
        three a b c [] x y z = refl
        three a b c (s ∷ xs) x y z =
            let p = and_parts (a s) _ x in let q = and_parts (b s) _ y in let r = and_parts (c s) _ z in
            and_from _ _ (and_from _ _ (and_from (a s) (b s) p.0 q.0) r.0) (three a b c xs p.1 q.1 r.1)

    pub sound_with_sockets : (sockets : List (SocketOf N)) → is_sound_parts same p ≡ true → AreRight p sockets → is_sound_parts same (record p { sockets = sockets }) ≡ true
    unfolding binds_locally sends_locally are_sockets covers_arp founds_routes
    sound_with_sockets sockets sound right =
        let f = facts_from_sound same (times_arp same) p sound in
        let heard : list_all (λ s. are_own same (times_arp same) p (queue_ifs s)) sockets ≡ true = all_weaker (is_right p) _ (λ s is. (and_parts _ (are_own same (times_arp same) p (queue_ifs s)) is).1) sockets right.each in
        tabled-sound same p (record p { sockets = sockets }) f
        (with_sockets-names (is_among same p.interfaces) p sockets (own_names same (times_arp same) p f) (sym (all_queues (is_among same p.interfaces) sockets) ∙ all_flat_map (is_among same p.interfaces) queue_ifs sockets ∙ heard))
        (all_weaker (is_right p) _ (λ s is. (and_parts (is_socket s) _ (and_parts _ _ is).0).1) sockets right.each)
        f.sources f.arp_covered f.founded f.variables f.addresses f.routes
        (and_from _ _ (and_from _ _ right.names right.ports) (all_weaker (is_right p) is_socket (λ s is. (and_parts (is_socket s) _ (and_parts _ _ is).0).0) sockets right.each))

    -- ---- each socket keeps its name, address and port

    pub right_kept : (f : SocketOf N → SocketOf N) → ((s t : SocketOf N) → bytes_eq (f s).name (f t).name ≡ bytes_eq s.name t.name) → ((s t : SocketOf N) → are_in_conflict (f s) (f t) ≡ are_in_conflict s t)
        → ((s : SocketOf N) → is_right p s ≡ true → is_right p (f s) ≡ true) → (sockets : List (SocketOf N)) → AreRight p sockets → AreRight p (map f sockets)
    right_kept f names ports each sockets right = record {
      names = distinct_map_same f _ _ names sockets ∙ right.names;
      ports = distinct_map_same f are_in_conflict are_in_conflict ports sockets ∙ right.ports;
      each = all_map_kept f (is_right p) (is_right p) each sockets right.each;
    }
