-- What stays where one pair changes, and where a half leaves the interfaces of a stack or comes to them.
use Rattle.std.proofs.Common.{◌≡◌, ◌≢◌, ℕ, ◌==◌, Bool, true, false, List, Option, Some, None, IfSome, refl, sym, ap, ◌∙◌, subst, ⊎_elim}
use Rattle.std.specs.Map.{lookup}
use Rattle.std.proofs.lemmas.Bool.{cases_eq}
use Rattle.vn_types.specs.declared.interface.HalfId.{HalfId}
use Rattle.vn_types.specs.declared.interface.IfName.{IfName}
use Rattle.vn_types.specs.declared.interface.IfOf.TheVariants.{Half}
use Rattle.vn_types.specs.declared.interface.Side.{Side}
use Rattle.vn_types.specs.Interfaces.{half_id_eq}
use Rattle.vn_types.specs.PerStack.{ChangesOnly}
use Rattle.vn_types.proofs.InterfaceNames.{half_id_eq-Decides}
use Rattle.vn_rules.specs.declared.parts.PartsOf.{PartsOf}
use Rattle.vn_rules.specs.Interfaces.{is_among, named_ifs}
use Rattle.vn_rules.specs.Soundness.{is_sound_parts}
use Rattle.vn_rules.proofs.InterfaceLaws.{with_interface-sound, without_interface-sound}
use Rattle.vn_epair.specs.Halves.{Pair}
use Rattle.vn_ifnet.specs.Names.{name_number}
use Rattle.vn_ifnet.specs.Stacks.{Held, reserved_by}
use Rattle.vn_vmove.specs.declared.tables.Tables.{Tables}
use Rattle.vn_vmove.proofs.Listing.{cut, put}

-- other interfaces and other pairs
abbrev pub linked : Tables → List Held → List (Option Pair) → Tables
linked t ifs pairs = record t { ifs = ifs; pairs = pairs }

pub some_map : {A : Type 0} (o : Option A) (P Q : A → Type 0) → ((x : A) → P x → Q x) → IfSome o P → IfSome o Q
some_map None P Q f holds = holds
some_map (Some x) P Q f holds = f x holds

-- ---- one number has another pair, or none

module _ (n : ℕ) (o : Option Pair) (old new : ℕ → Option Pair) (here : new n ≡ o) (changes : ChangesOnly n old new) where
  -- what holds of a number
  pub stays_so : (P : ℕ → Option Pair → Type 0) → (P n (old n) → P n o) → (m : ℕ) → P m (old m) → P m (new m)
  stays_so P at m holds = ⊎_elim same other (cases_eq m n)
    where
      same : m ≡ n → P m (new m)
      same e = subst (λ k. P k (new k)) (sym e) (subst (P n) (sym here) (at (subst (λ k. P k (old k)) e holds)))

      other : m ≢ n → P m (new m)
      other ne = subst (P m) (sym (changes.others m ne)) holds

  -- what holds of each pair
  pub each_pair : (P : ℕ → Pair → Type 0) → IfSome o (P n) → ((m : ℕ) → IfSome (old m) (P m)) → (m : ℕ) → IfSome (new m) (P m)
  each_pair P at all m = stays_so (λ k p. IfSome p (P k)) (λ before. at) m (all m)

  -- and for each half
  pub each_half : (P : HalfId → Pair → Type 0) → ((side : Side) → IfSome o (P (record { pair = n; side = side })))
      → ((g : HalfId) → IfSome (old g.pair) (P g)) → (g : HalfId) → IfSome (new g.pair) (P g)
  each_half P at all g = each_pair (λ m. P (record { pair = m; side = g.side })) (at g.side) (λ m. all (record { pair = m; side = g.side })) g.pair

  -- what is told of a number
  pub kept_of : {A : Type 0} (f : Option Pair → A) (m : ℕ) → (m ≡ n → f o ≡ f (old n)) → f (new m) ≡ f (old m)
  kept_of {A = A} f m at = ⊎_elim same other (cases_eq m n)
    where
      same : m ≡ n → f (new m) ≡ f (old m)
      same e = ap (λ k. f (new k)) e ∙ ap f here ∙ at e ∙ ap (λ k. f (old k)) (sym e)

      other : m ≢ n → f (new m) ≡ f (old m)
      other ne = ap f (changes.others m ne)

-- ---- the interfaces of a stack

module _ (h : HalfId) where
  pub cut-sound : (c : Bool) (p : PartsOf HalfId) → (c ≡ true → is_among half_id_eq (named_ifs p) (Half h) ≡ false) → is_sound_parts half_id_eq p ≡ true
      → is_sound_parts half_id_eq (record p { interfaces = cut h c p.interfaces }) ≡ true
  cut-sound true p unnamed sound = without_interface-sound half_id_eq p half_id_eq-Decides (Half h) (unnamed refl) sound
  cut-sound false p unnamed sound = sound

  pub put-sound : (b : Bool) (p : PartsOf HalfId) → is_sound_parts half_id_eq p ≡ true
      → is_sound_parts half_id_eq (record p { interfaces = put h b p.interfaces }) ≡ true
  put-sound true p sound = with_interface-sound half_id_eq p (Half h) sound
  put-sound false p sound = sound

-- ---- the names of a stack

-- where the same are reserved, each is for the same half
pub reserved-same : (a b : Held) → a.reserved ≡ b.reserved → (name : IfName) → reserved_by name a ≡ reserved_by name b
reserved-same a b same name = ap (λ r. lookup (λ k. name_number name == k) r) same
