use Rattle.std.proofs.Common.{◌≡◌, ℕ, Bool, true, false, cond, Option, None, refl, sym, ap, ap₂, ◌∙◌, rules, tests}
use Rattle.std.specs.BTreeMap.{is_at}
use Rattle.std.specs.Cmp.Lexicographic.{slice_cmp}
use Rattle.std.specs.Option.{option_map}
use Rattle.std.specs.Ordering.{nat_cmp}
use Rattle.std.specs.Str.{bytes_eq}
use Rattle.std.proofs.lemmas.Map.Made.{lookup-map_values, map_same_pairs}
use Rattle.vn_types.specs.OctetOrder.{octets_ties}
use Rattle.vn_sock.specs.Names.{moved, told}
use Rattle.vn_sock.proofs.name_index.NameIndex.remove.Goals as goal

but : (f : ℕ → ℕ) (b : Bool) (o : Option ℕ) → option_map f (cond b None o) ≡ cond b None (option_map f o)
but f true o = refl
but f false o = refl

pub returns : goal.returns
returns c = λ q.
    ap (told q) (map_same_pairs _ (moved c.args.place) _ (λ k v b w f t. search (rules, tests)) _ _ c.retain.ensures.filtered)
    ∙ lookup-map_values (moved c.args.place) (is_at (slice_cmp nat_cmp q)) c.remove.new.self.entries
    ∙ ap (option_map (moved c.args.place)) (c.remove.ensures.updates.0 q ∙ ap₂ (λ is other. cond is None other) (sym (octets_ties c.args.name.now q)) (ap (told q) c.self.view_is))
    ∙ but (moved c.args.place) (bytes_eq c.args.name.now q) (told q c.args.self.now)
