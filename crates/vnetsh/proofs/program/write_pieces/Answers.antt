use Rattle.std.proofs.Common.{◌≡◌, ◌++◌, ◌+◌, ◌<◌, ℕ, Bor, List, Option, Result, Ok, Err, OnErr, length, take, drop, arith, ap, sym, subst, ◌∙◌, length-append, take-append-drop}
use Rattle.std.proofs.lemmas.Grind.{flat_map-append}
use Rattle.std.proofs.Math.ListN.{get_or}
use Rattle.std.proofs.Math.Seq.{take-append-add}
use Rattle.std.proofs.lemmas.List.{drop_more, take-append-le}
use Rattle.std.proofs.KnownBytes.{Appends-trans}
use Rattle.std.specs.Io.KnownBytes.{Appends}
use Rattle.std.specs.List.{flat_map}
use Rattle.vn_io.specs.Transfers.{AppendsPart}
use Rattle.vnetsh.proofs.program.write_pieces.Goals as goal

-- a front part of the next piece, behind the pieces before it, is a front part of them all
part_next : (a b c : Option (List ℕ)) (front piece rest whole : List ℕ) → whole ≡ front ++ (piece ++ rest) → Appends a b front → AppendsPart b c piece
    → AppendsPart a c whole
part_next a b c front piece rest whole is before part =
    let n = part.0 in (
      length front + n,
      omega (arith, part.1, ap length is, length-append front (piece ++ rest), length-append piece rest),
      subst (Appends a c)
          (ap (λ p. front ++ p) (sym (take-append-le n piece rest (omega (arith, part.1)))) ∙ sym (take-append-add front (piece ++ rest) n) ∙ ap (take (length front + n)) (sym is))
          (Appends-trans a b c front (take n piece) before part.2),
    )

-- items in a row are those before one, that one, and those behind it
in_a_row : {X : Type 0} (f : X → List ℕ) (items : List X) (i : ℕ) (d : X) → i < length items
    → flat_map f items ≡ flat_map f (take i items) ++ (f (get_or items i d) ++ flat_map f (drop (i + 1) items))
in_a_row f items i d inside =
    ap (flat_map f) (sym (take-append-drop i items))
    ∙ flat_map-append f (take i items) (drop i items)
    ∙ ap (λ l. flat_map f (take i items) ++ flat_map f l) (drop_more items i d inside)

-- what holds of a failure holds of a result
on_err : {A B : Type 0} {P : Type 0} (r : Result A B) → P → OnErr r P
on_err (Ok x) p = tt
on_err (Err e) p = p

pub returns-in_err-write_all-clause-part : goal.returns-in_err-write_all-clause-part
returns-in_err-write_all-clause-part g c =
    let text : Bor (List ℕ) → List ℕ = λ piece. piece.now in
    on_err c.from_residual.result
    (part_next _ _ _ _ _ _ _ (in_a_row text c.args.pieces.now c.loop-piece.piece-index _ c.loop-piece-test.true) c.loop-piece.invariant.so_far c.in_err-write_all.ensures.part)
