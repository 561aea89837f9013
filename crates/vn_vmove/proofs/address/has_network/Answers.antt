use Rattle.std.proofs.Common.{◌≡◌, ◌+◌, ◌^◌, ◌||◌, true, Some, sym, ap, ◌∙◌, arith, drop}
use Rattle.std.specs.Prelude.{slice_get}
use Rattle.std.specs.List.{list_any}
use Rattle.std.proofs.lemmas.Bool.{lt-ltb}
use Rattle.std.proofs.lemmas.Option.{slice_get_within}
use Rattle.vn_types.specs.Interfaces.{half_id_eq}
use Rattle.vn_rules.specs.Addresses.{is_address_of}
use Rattle.vn_inaddr.specs.Stacks.{of}
use Rattle.vn_vmove.proofs.Walk.{few-seen, is_word, left-here, left-none, seen-more}
use Rattle.vn_vmove.proofs.address.has_network.Goals as goal

pub returns-then-is_address_of : goal.returns-then-is_address_of
returns-then-is_address_of c =
    let addresses = of c.args.addrs.now c.args.sid.0 in
    let rest = list_any (is_address_of half_id_eq c.args.on c.args.to) (drop (c.loop-addr.place + 1) addresses) in
    ap (λ b. b || rest) c.if-is_address_of.ensures ∙ sym (left-here (is_address_of half_id_eq c.args.on c.args.to) addresses c.loop-addr.place c.in-Some.addr (sym c.in-Some.ensures.at)) ∙ c.loop-addr.invariant.left

pub overflow_add-place : goal.overflow_add-place
overflow_add-place c =
    let few = few-seen (of c.args.addrs.now c.args.sid.0) c.loop-addr.place c.in-Some.addr c.requires (sym c.in-Some.ensures.at) c.loop-addr.invariant.seen in
    omega (arith, few)

pub loop-addr-smaller : goal.loop-addr-smaller
loop-addr-smaller c =
    let within = slice_get_within (of c.args.addrs.now c.args.sid.0) c.loop-addr.place c.in-Some.addr (sym c.in-Some.ensures.at) in
    omega (arith, within)

pub loop-addr-preserved : goal.loop-addr-preserved
loop-addr-preserved c =
    let addresses = of c.args.addrs.now c.args.sid.0 in
    let at : slice_get addresses c.loop-addr.place ≡ Some c.in-Some.addr = sym c.in-Some.ensures.at in
    let rest = list_any (is_address_of half_id_eq c.args.on c.args.to) (drop (c.loop-addr.place + 1) addresses) in
    let word : is_word c.in-Some.addr ≡ true = lt-ltb c.in-Some.addr.ip.0 (2 ^ 32) (omega arith) in
    record {
      left = ap (λ b. b || rest) c.if-is_address_of.ensures ∙ sym (left-here (is_address_of half_id_eq c.args.on c.args.to) addresses c.loop-addr.place c.in-Some.addr at) ∙ c.loop-addr.invariant.left;
      seen = seen-more addresses c.loop-addr.place c.in-Some.addr at c.loop-addr.invariant.seen word;
    }

pub returns : goal.returns
returns c =
    sym (left-none (is_address_of half_id_eq c.args.on c.args.to) (of c.args.addrs.now c.args.sid.0) c.loop-addr.place (sym c.in_default.ensures.at)) ∙ c.loop-addr.invariant.left
