-- Constructors enter themselves in a transcript, one after another.
use Rattle.std.proofs.Common.{◌≡◌, ℕ, ◌+◌, ◌<◌, List, [], ◌∷◌, ◌++◌, map, length, get_or, take, subst, sym, ap, ◌∙◌, append_assoc, refl}
use Rattle.std.proofs.lemmas.List.{map-append, take_more}
use Rattle.vn_cells.specs.declared.transcript.Entry.{Entry}
use Rattle.vn_cells.specs.declared.transcript.What.TheVariants as what
use Rattle.vn_sysinit.specs.Rows.{constructor_names}
use Rattle.vn_kernel.specs.declared.constructors.Constructor.{Constructor}
use Rattle.vn_kernel.specs.Constructors.{constructors, constructor_name}
use Rattle.vn_kernel.proofs.Registering.{number_before-at}

-- the entry of a name
abbrev pub entered : ℕ → List ℕ → Entry
entered clock name = record { clock = clock; what = what.Init name }

-- an entry more, of the constructor at the next place
pub entered-more : (up : List Constructor) → up ≡ constructors → (clock i : ℕ) (d : Constructor) (old entries : List Entry) → i < length up
    → entries ≡ old ++ map (entered clock) (take i constructor_names)
    → entries ++ entered clock (constructor_name (get_or up i d)) ∷ [] ≡ old ++ map (entered clock) (take (i + 1) constructor_names)
entered-more up order clock i d old entries within is =
    let below : i < length constructors = subst (λ (cs : List Constructor). i < length cs) order within in
    ap (λ (cs : List Constructor). entries ++ entered clock (constructor_name (get_or cs i d)) ∷ []) order
    ∙ (λ j. is j ++ entered clock (get_or constructor_names (number_before-at constructors refl i d below j) []) ∷ [])
    ∙ append_assoc old (map (entered clock) (take i constructor_names)) (entered clock (get_or constructor_names i []) ∷ [])
    ∙ ap (λ es. old ++ es) (sym (map-append (entered clock) (take i constructor_names) (get_or constructor_names i [] ∷ [])))
    ∙ ap (λ names. old ++ map (entered clock) names) (sym (take_more constructor_names i [] below))
