-- A stack whose tables change, where a half is attached or taken out.
use Rattle.std.proofs.Common.{◌≡◌, Bool, true, false, List, Option, Some, None, refl, sym, ap, ◌∙◌}
use Rattle.std.specs.Prelude.{if◌then◌else◌}
use Rattle.std.specs.Option.{is_some}
use Rattle.std.proofs.lemmas.Bool.{true≢false}
use Rattle.vn_types.specs.declared.half.Half.{Half}
use Rattle.vn_types.specs.declared.interface.IfOf.TheVariants.{Half as OfHalf}
use Rattle.vn_rules.specs.declared.parts.PartsOf.{PartsOf}
use Rattle.vn_rules.specs.Soundness.{is_sound_parts}
use Rattle.vn_cells.specs.declared.world.Live.{Live}
use Rattle.vn_cells.specs.declared.world.Stack.{Stack}
use Rattle.vn_cells.specs.world.Names.{If, if_eq, half_eq}
use Rattle.vn_cells.specs.world.World.{ifs_of, live_map, on_parts}
use Rattle.vn_cells.specs.commands.Pairs.{detached}
use Rattle.vn_cells.specs.keeping.Standing.{passes}
use Rattle.vn_cells.specs.keeping.Moved.{forgets}
use Rattle.vn_laws.proofs.edits.Trees.{tree_of}
use Rattle.vn_laws.proofs.pairs.Listed.{but, count, has, count-but, if_eq-refl}
use Rattle.vn_laws.proofs.pairs.Parts.{forgets-unlisted, detached-interfaces, detached-sound, detached-forgets, detached-fewer}

-- the tables of a stack change, or not
abbrev pub changed : (PartsOf Half → PartsOf Half) → Bool → Stack → Stack
changed f c s = if c then live_map (on_parts f) s else s

abbrev with_live : Stack → Option Live → Stack
with_live s o = record s { live = o }

module _ (f : PartsOf Half → PartsOf Half) where
  pub changed_tree : (c : Bool) (s : Stack) → tree_of (changed f c s) ≡ tree_of s
  changed_tree c s = by c s.live
    where
      by : (c : Bool) (o : Option Live) → tree_of (changed f c (with_live s o)) ≡ tree_of (with_live s o)
      by true None = refl
      by false None = refl
      by true (Some live) = refl
      by false (Some live) = refl

  -- what passes a test passes it afterwards
  pub changed_passes : (test : PartsOf Half → Bool) → ((p : PartsOf Half) → test p ≡ true → test (f p) ≡ true)
      → (c : Bool) (s : Stack) → passes test s.live ≡ true → passes test (changed f c s).live ≡ true
  changed_passes test keeps c s = by c s.live
    where
      by : (c : Bool) (o : Option Live) → passes test o ≡ true → passes test (changed f c (with_live s o)).live ≡ true
      by true None e = refl
      by false None e = refl
      by true (Some live) e = keeps live.parts e
      by false (Some live) e = e

  -- the interfaces, of what lives
  pub changed_ifs : (g : List If → List If) → ((p : PartsOf Half) → (f p).interfaces ≡ g p.interfaces)
      → (c : Bool) (s : Stack) → (c ≡ true → is_some s.live ≡ true)
      → ifs_of (changed f c s) ≡ (if c then g (ifs_of s) else ifs_of s)
  changed_ifs g same c s = by c s.live
    where
      by : (c : Bool) (o : Option Live) → (c ≡ true → is_some o ≡ true)
          → ifs_of (changed f c (with_live s o)) ≡ (if c then g (ifs_of (with_live s o)) else ifs_of (with_live s o))
      by true None alive = absurd (true≢false (sym (alive refl)))
      by false None alive = refl
      by true (Some live) alive = same live.parts
      by false (Some live) alive = refl

-- ---- a half is purged and taken out

abbrev pub cut : Half → Bool → Stack → Stack
cut h c s = changed (detached h) c s

abbrev pub cut_ifs : Half → Bool → List If → List If
cut_ifs h c ifs = if c then but h ifs else ifs

pub ifs_cut : (h : Half) (c : Bool) (s : Stack) → ifs_of (cut h c s) ≡ cut_ifs h c (ifs_of s)
ifs_cut h c s = by c s.live
  where
    by : (c : Bool) (o : Option Live) → ifs_of (cut h c (with_live s o)) ≡ cut_ifs h c (ifs_of (with_live s o))
    by true None = refl
    by false None = refl
    by true (Some live) = detached-interfaces h live.parts
    by false (Some live) = refl

pub sound_cut : (h : Half) (c : Bool) (s : Stack) → passes (is_sound_parts half_eq) s.live ≡ true
    → passes (is_sound_parts half_eq) (cut h c s).live ≡ true
sound_cut h = changed_passes (detached h) (is_sound_parts half_eq) (detached-sound h)

pub forgets_cut : (g h : Half) (c : Bool) (s : Stack) → passes (forgets g) s.live ≡ true → passes (forgets g) (cut h c s).live ≡ true
forgets_cut g h = changed_passes (detached h) (forgets g) (detached-fewer g h)

-- the half itself is forgotten where it is taken out, and elsewhere nothing named it
pub own_cut : (h : Half) (c : Bool) (s : Stack) → passes (is_sound_parts half_eq) s.live ≡ true
    → (c ≡ false → has h (ifs_of s) ≡ false) → passes (forgets h) (cut h c s).live ≡ true
own_cut h c s = by c s.live
  where
    by : (c : Bool) (o : Option Live) → passes (is_sound_parts half_eq) o ≡ true → (c ≡ false → has h (ifs_of (with_live s o)) ≡ false)
        → passes (forgets h) (cut h c (with_live s o)).live ≡ true
    by true None e out = refl
    by false None e out = refl
    by true (Some live) e out = detached-forgets h live.parts
    by false (Some live) e out = forgets-unlisted h live.parts e (out refl)

-- where it isn't listed, what lives keeps nothing of it
pub forgets_there : (h : Half) (s : Stack) → passes (is_sound_parts half_eq) s.live ≡ true → has h (ifs_of s) ≡ false
    → passes (forgets h) s.live ≡ true
forgets_there h s = by s.live
  where
    by : (o : Option Live) → passes (is_sound_parts half_eq) o ≡ true → has h (ifs_of (with_live s o)) ≡ false → passes (forgets h) o ≡ true
    by None e out = refl
    by (Some live) e out = forgets-unlisted h live.parts e out

pub count_cut : (on : If) (h : Half) (c : Bool) (ifs : List If) → if_eq on (OfHalf h) ≡ false → count on (cut_ifs h c ifs) ≡ count on ifs
count_cut on h true ifs e = count-but on h ifs ∙ ap (λ b. if b then 0 else count on ifs) e
count_cut on h false ifs e = refl

pub count_cut-own : (h : Half) (c : Bool) (ifs : List If) → (c ≡ false → count (OfHalf h) ifs ≡ 0) → count (OfHalf h) (cut_ifs h c ifs) ≡ 0
count_cut-own h true ifs out = count-but (OfHalf h) h ifs ∙ ap (λ b. if b then 0 else count (OfHalf h) ifs) (if_eq-refl (OfHalf h))
count_cut-own h false ifs out = out refl

pub count_cut-none : (on : If) (h : Half) (c : Bool) (ifs : List If) → count on ifs ≡ 0 → count on (cut_ifs h c ifs) ≡ 0
count_cut-none on h true ifs e = count-but on h ifs ∙ by (if_eq on (OfHalf h))
  where
    by : (b : Bool) → (if b then 0 else count on ifs) ≡ 0
    by true = refl
    by false = e
count_cut-none on h false ifs e = e
