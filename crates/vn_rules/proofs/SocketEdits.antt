-- A socket that is edited leaves its neighbours right, where its port is free for it.
use Rattle.std.proofs.Common.{◌≡◌, ℕ, ◌≤◌, Bool, true, false, cond, ◌&&◌, List, map, Option, Some, None, refl, sym, ap, ap₂, subst, ◌∙◌, arith}
use Rattle.std.specs.List.{list_any, list_all, count_by}
use Rattle.std.specs.Option.{IfSome, option_map_or}
use Rattle.std.specs.Str.{bytes_eq}
use Rattle.std.proofs.lemmas.Bool.{and_parts, and_from, not-true, eqb-true, eq-eqb}
use Rattle.std.proofs.lemmas.Slice.Eq.{bytes_eq-Decides}
use Rattle.vn_types.specs.declared.address.Ip4.{Ip4}
use Rattle.vn_types.specs.Refusals.{first_refusal}
use Rattle.vn_types.proofs.RefusalLaws.{NoneApplies, none-applies}
use Rattle.vn_rules.specs.declared.socket.SocketOf.{SocketOf}
use Rattle.vn_rules.specs.declared.parts.PartsOf.{PartsOf}
use Rattle.vn_rules.specs.Orders.{are_distinct}
use Rattle.vn_rules.specs.Ports.{overlaps, is_port, conflicts, are_in_conflict, is_port_free, automatic_port}
use Rattle.vn_rules.specs.Sockets.{is_named, socket_named, others, on_socket, qualifies, hears}
use Rattle.vn_rules.specs.SocketRefusals.{Conditions, of_open}
use Rattle.vn_rules.specs.Soundness.{is_sound_parts}
use Rattle.vn_rules.proofs.ListTests.{all_map_kept, distinct_weaker, distinct_map_same, both_pass, find_all, at_most_one, edit_found, others_apart, distinct_edit}
use Rattle.vn_rules.proofs.PortLaws.{are_in_conflict-flip, IsLowest, first_port-lowest}
use Rattle.vn_rules.proofs.SocketSound.{is_right, AreRight, right_from_sound}

-- ---- what nothing refuses

module _ {N : Type 0} where
  -- the socket is there, and none of its conditions holds
  pub record IsOpen (conditions : SocketOf N → Conditions) (name : List ℕ) (sockets : List (SocketOf N)) : Type 0 where
    pub it : SocketOf N
    pub is : socket_named name sockets ≡ Some it
    pub none : NoneApplies (conditions it)

  pub open_from_none : (conditions : SocketOf N → Conditions) (name : List ℕ) (sockets : List (SocketOf N)) → first_refusal (of_open conditions (socket_named name sockets)) ≡ None → IsOpen conditions name sockets
  open_from_none conditions name sockets none = by (socket_named name sockets) refl none
    where
      by : (o : Option (SocketOf N)) → socket_named name sockets ≡ o → first_refusal (of_open conditions o) ≡ None → IsOpen conditions name sockets
      by None is none = absurd (cc)
      by (Some s) is none = record { it = s; is = is; none = none-applies (conditions s) none }

-- ---- free ports

module _ {N : Type 0} where
  none_from_free : (ip : Option Ip4) (port : ℕ) (rest : List (SocketOf N)) → is_port_free ip port rest ≡ true → list_any (conflicts ip port) rest ≡ false
  none_from_free ip port rest free = not-true _ free

  -- a port that is found is free
  pub automatic-free : (ip : Option Ip4) (rest : List (SocketOf N)) (port : ℕ) → automatic_port ip rest ≡ Some port → list_any (conflicts ip port) rest ≡ false
  automatic-free ip rest port is =
      none_from_free ip port rest (IsLowest.free (subst (λ o. IfSome o (IsLowest 49152 16384 (λ q. is_port_free ip q rest))) is (first_port-lowest 16384 49152 (λ q. is_port_free ip q rest))))

  -- two sockets that a datagram is for are in conflict
  both_conflict : (dst : Ip4) (dport : ℕ) (src : Ip4) (sport : ℕ) (s t : SocketOf N) → both_pass (qualifies dst dport src sport) s t ≡ true → are_in_conflict s t ≡ true
  both_conflict dst dport src sport s t both =
      let two = and_parts (qualifies dst dport src sport s) _ both in
      let first = and_parts (conflicts (Some dst) dport s) (hears src sport s) two.0 in
      let second = and_parts (conflicts (Some dst) dport t) (hears src sport t) two.1 in
      let here = and_parts (is_port dport s.port) _ first.0 in
      let there = and_parts (is_port dport t.port) _ second.0 in
      by s.port t.port here.0 there.0 (meet s.ip t.ip here.1 there.1)
    where
      meet : (a b : Option Ip4) → overlaps a (Some dst) ≡ true → overlaps b (Some dst) ≡ true → overlaps b a ≡ true
      meet None None one other = refl
      meet None (Some b) one other = refl
      meet (Some a) None one other = refl
      meet (Some a) (Some b) one other = grind (arith, eqb-true, eq-eqb)

      by : (p q : Option ℕ) → is_port dport p ≡ true → is_port dport q ≡ true → overlaps t.ip s.ip ≡ true → option_map_or (λ port. is_port port q && overlaps t.ip s.ip) p false ≡ true
      by None q one other over = absurd (cc)
      by (Some p) None one other over = absurd (cc)
      by (Some p) (Some q) one other over = and_from _ _ (grind (arith, eqb-true, eq-eqb)) over

module _ {N : Type 0} (same : N → N → Bool) (p : PartsOf N) where
  pub qualifies-once : (dst : Ip4) (dport : ℕ) (src : Ip4) (sport : ℕ) → is_sound_parts same p ≡ true → count_by (qualifies dst dport src sport) p.sockets ≤ 1
  qualifies-once dst dport src sport sound =
      at_most_one (qualifies dst dport src sport) p.sockets
      (distinct_weaker are_in_conflict (both_pass (qualifies dst dport src sport)) (both_conflict dst dport src sport) p.sockets (AreRight.ports (right_from_sound same p sound)))

  -- ---- the socket of a name

  pub one_named : (name : List ℕ) (sockets : List (SocketOf N)) → AreRight same p sockets → are_distinct (both_pass (is_named name)) sockets ≡ true
  one_named name sockets right = distinct_weaker (λ (s : SocketOf N) (t : SocketOf N). bytes_eq s.name t.name) (both_pass (is_named name)) by sockets right.names
    where
      by : (s t : SocketOf N) → both_pass (is_named name) s t ≡ true → bytes_eq s.name t.name ≡ true
      by s t both =
          let two = and_parts (bytes_eq name s.name) _ both in
          (bytes_eq-Decides s.name t.name).1 (sym ((bytes_eq-Decides name s.name).0 two.0) ∙ (bytes_eq-Decides name t.name).0 two.1)

  pub edited_right : (name : List ℕ) (f : SocketOf N → SocketOf N) (sockets : List (SocketOf N)) (s : SocketOf N)
      → AreRight same p sockets → socket_named name sockets ≡ Some s → ((t : SocketOf N) → (f t).name ≡ t.name)
      → list_any (are_in_conflict (f s)) (others name sockets) ≡ false → is_right same p (f s) ≡ true → AreRight same p (on_socket name f sockets)
  edited_right name f sockets s right found names apart each = record {
    names = distinct_map_same (λ t. cond (is_named name t) (f t) t) _ _ (λ t u. ap₂ bytes_eq (kept t) (kept u)) sockets ∙ right.names;
    ports = ap (are_distinct are_in_conflict) edit ∙ distinct_edit (is_named name) are_in_conflict are_in_conflict-flip (f s) sockets one right.ports apart;
    each = ap (list_all (is_right same p)) edit ∙ all_map_kept (λ t. cond (is_named name t) (f s) t) (is_right same p) (is_right same p) (λ t is. by (is_named name t) t is) sockets right.each;
  }
    where
      one : are_distinct (both_pass (is_named name)) sockets ≡ true
      one = one_named name sockets right

      edit : on_socket name f sockets ≡ map (λ t. cond (is_named name t) (f s) t) sockets
      edit = edit_found (is_named name) f sockets s one found

      kept : (t : SocketOf N) → (cond (is_named name t) (f t) t).name ≡ t.name
      kept t = at (is_named name t)
        where
          at : (b : Bool) → (cond b (f t) t).name ≡ t.name
          at true = names t
          at false = refl

      by : (b : Bool) (t : SocketOf N) → is_right same p t ≡ true → is_right same p (cond b (f s) t) ≡ true
      by true t is = each
      by false t is = is

  -- what is found is right, and in conflict with none of the others
  pub found_right : (name : List ℕ) (sockets : List (SocketOf N)) (s : SocketOf N) → AreRight same p sockets → socket_named name sockets ≡ Some s → is_right same p s ≡ true
  found_right name sockets s right found = find_all (is_named name) (is_right same p) sockets s found right.each

  pub found_apart : (name : List ℕ) (sockets : List (SocketOf N)) (s : SocketOf N) → AreRight same p sockets → socket_named name sockets ≡ Some s → list_any (are_in_conflict s) (others name sockets) ≡ false
  found_apart name sockets s right found = others_apart (is_named name) are_in_conflict are_in_conflict-flip sockets s (one_named name sockets right) right.ports found
