use Rattle.std.proofs.Common.{◌≡◌, ℕ, ◌+◌, ◌++◌, ◌∷◌, [], List, Option, cond, length, Some, sym, ap, ap₂, ◌∙◌}
use Rattle.std.specs.BTreeMap.{is_at}
use Rattle.vn_epair.specs.Halves.{Pair}
use Rattle.vn_epair.specs.Pairs.{is_named, new_pair, of}
use Rattle.vn_epair.specs.Line.{Halves}
use Rattle.vn_epair.specs.Kept.{name_cmp, told}
use Rattle.vn_epair.proofs.Names.{kept-made}
use Rattle.vn_epair.proofs.pairs.Pairs.add.Goals as goal

pub invariant_of-self-2 : goal.invariant_of-self-2
invariant_of-self-2 c =
    let pairs : c.push_reserved.new.self.items ≡ c.self.inside.rows.items ++ Some (new_pair c.args.home.0 c.args.unit) ∷ [] =
    c.push_reserved.ensures.items ∙ ap₂ (λ (ps : List (Option Pair)) (p : Pair). ps ++ Some p ∷ []) c.reserve.ensures.items c.in_ok-row.ensures in
    let free = λ (q : ℕ). ap (λ ps. is_named c.args.home.0 c.args.unit (of ps q)) c.self.view_is ∙ c.requires.new q in
    let number : c.args.number ≡ length c.self.inside.rows.items = c.requires.number ∙ sym (ap length c.self.view_is) in
    let room : c.reserve-2.new.self ≡ record c.self.inside.line { room = c.self.inside.line.room + 2 } = c.in_ok-reserve-2.ensures.room in
    rw pairs
    (kept-made c.self.inside.rows.items c.self.inside.names c.insert.new.self c.self.inside.line c.reserve-2.new.self c.self.invariant c.args.home.0 c.args.unit c.requires.unit free
    (λ k. c.in-Ok.ensures.inserted k ∙ ap (λ n. cond (is_at (name_cmp (c.args.home.0, c.args.unit)) k) (Some n) (told c.self.inside.names k)) number)
    (ap (λ (h : Halves). h.listed) room) (ap (λ (h : Halves). h.room) room))
