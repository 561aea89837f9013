use Rattle.std.proofs.Common.{◌≡◌, [], ◌∷◌, ◌++◌, length, cond, Some, None, List, sym, ap, ap₂, subst, ◌∙◌, arith}
use Rattle.std.specs.Str.{bytes_eq}
use Rattle.std.proofs.lemmas.List.{length-map}
use Rattle.vn_types.specs.declared.interface.HalfId.{HalfId}
use Rattle.vn_rules.specs.declared.socket.SocketOf.{SocketOf}
use Rattle.vn_rules.specs.Sockets.{socket_named}
use Rattle.vn_sock.specs.Kept.{IsIndexed, names_of, numbers_of}
use Rattle.vn_sock.specs.Names.{told}
use Rattle.vn_sock.specs.Ports.{port_number}
use Rattle.vn_sock.proofs.Indexed.{undone}
use Rattle.vn_sock.proofs.Kept.{err-kept, named-none, ok-done, opened-last}
use Rattle.vn_sock.proofs.sockets.Sockets.open.Goals as goal

pub invariant_of-self-then-is_err : goal.invariant_of-self-then-is_err
invariant_of-self-then-is_err c =
    let many : length (numbers_of c.self.inside.items.items) ≡ length c.self.inside.items.items = length-map c.self.inside.items.items (λ (s : SocketOf HalfId). port_number s.port) in
    let names_stay = err-kept c.add-2.result (sym c.is_err.ensures.value ∙ c.if-is_err.true) c.add-2.ensures.kept in
    subst (λ ns. IsIndexed ns c.remove.new.self (names_of c.reserve.new.self.items) (numbers_of c.reserve.new.self.items)) (sym names_stay)
    (subst (λ (ss : List (SocketOf HalfId)). IsIndexed c.self.inside.names c.remove.new.self (names_of ss) (numbers_of ss)) (sym c.reserve.ensures.items)
    (undone c.self.inside.names c.self.inside.ports (names_of c.self.inside.items.items) (numbers_of c.self.inside.items.items) c.self.invariant
    c.add.new.self c.len-place.result (omega (arith, many)) c.in_ok-add.ensures.added c.remove.new.self c.remove.ensures))

pub invariant_of-self-2 : goal.invariant_of-self-2
invariant_of-self-2 c =
    let none : socket_named c.args.name c.args.self.now ≡ None = named-none c.args.name c.args.self.now c.named.result c.named.ensures (sym c.is_some.ensures ∙ c.if-is_some.false) in
    subst (λ (ss : List (SocketOf HalfId)). IsIndexed c.add-2.new.self c.add.new.self (names_of ss) (numbers_of ss))
    (sym (c.push_reserved.ensures.items ∙ ap₂ (λ (ss : List (SocketOf HalfId)) s. ss ++ s ∷ []) c.reserve.ensures.items c.in_ok-socket.ensures))
    (opened-last c.self.inside.names c.self.inside.ports c.self.inside.items.items c.self.invariant c.add-2.new.self c.add.new.self c.args.name c.len-place.result (omega arith) (ap (socket_named c.args.name) c.self.view_is ∙ none)
    (λ q.
    ok-done c.add-2.result (sym c.is_err.ensures.value ∙ c.if-is_err.false) c.add-2.ensures.added q
    ∙ ap (λ name. cond (bytes_eq name q) (Some c.len-place.result) (told q c.self.inside.names)) c.in_ok-key.ensures)
    c.in_ok-add.ensures.added)
