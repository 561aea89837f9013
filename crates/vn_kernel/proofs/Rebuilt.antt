-- A stack of sound tables is built, or razed, where no half stands and no pair is homed: the tables stay sound.
use Rattle.std.proofs.Common.{◌≡◌, ◌≢◌, ℕ, ◌==◌, Bool, true, false, List, [], ◌∷◌, map, Option, Some, None, IfSome, refl, sym, ap, ◌∙◌, subst, ⊎_elim}
use Rattle.std.specs.Prelude.{if◌then◌else◌, count_by, is_some}
use Rattle.std.specs.List.{list_all}
use Rattle.std.specs.Map.{lookup}
use Rattle.std.proofs.lemmas.Bool.{both_ways, cases_eq, eq-eqb, ne_eqb}
use Rattle.vn_types.specs.declared.interface.HalfId.{HalfId}
use Rattle.vn_types.specs.declared.interface.IfName.{IfName}
use Rattle.vn_types.specs.declared.interface.IfName.TheVariants as ifname
use Rattle.vn_types.specs.declared.interface.IfOf.{IfOf}
use Rattle.vn_types.specs.declared.interface.IfOf.TheVariants.{Lo0, Half}
use Rattle.vn_types.specs.Interfaces.{half_id_eq, if_same}
use Rattle.vn_types.specs.PerStack.{ChangesOnly}
use Rattle.vn_rules.specs.declared.parts.PartsOf.{PartsOf}
use Rattle.vn_rules.specs.Construction.{bare_parts, constructed_parts}
use Rattle.vn_rules.specs.Soundness.{is_sound_parts}
use Rattle.vn_rules.proofs.Constructed.{constructed_parts-sound}
use Rattle.vn_arp.specs.Kept.{KnowsArms}
use Rattle.vn_arp.specs.Stacks.{of as arp_of}
use Rattle.vn_callout.specs.Stacks.{of as timers_of}
use Rattle.vn_epair.specs.Halves.{Pair}
use Rattle.vn_epair.specs.Pairs.{end_of}
use Rattle.vn_ifnet.specs.Names.{name_number}
use Rattle.vn_ifnet.specs.Stacks.{Held, is_another, reserved_by}
use Rattle.vn_loop.specs.Queues.{of as loopback_of}
use Rattle.vn_store.specs.Held.{of as variables_of}
use Rattle.vn_vmove.specs.declared.tables.Tables.{Tables}
use Rattle.vn_vmove.specs.Parts.{held, lives, pair_at, parts}
use Rattle.vn_vmove.specs.Places.{KeepsNames}
use Rattle.vn_vmove.specs.Sound.{IsHomedAs, IsSound, is_rightly_named, stands_at, times, times_listed}
use Rattle.vn_kernel.specs.Construction.{Rebuilds, lo0}
use Rattle.vn_kernel.specs.Removal.{IsAlone}

-- a list of which a map leaves nothing is empty
pub unmapped : {A B : Type 0} (f : A → B) (xs : List A) → map f xs ≡ [] → xs ≡ []
unmapped f [] is = refl
unmapped f (x ∷ xs) is = cc

-- what a stack has that is built, or razed
abbrev pub parts_if : Bool → PartsOf HalfId
parts_if alive = if alive then constructed_parts else bare_parts

-- each table has for the stack what is built, or nothing, and for each other stack what it had
pub record BuildsOrRazes (alive : Bool) (sid : ℕ) (t u : Tables) : Type 0 where
  pub lives_here : lives u sid ≡ alive
  pub variables_here : is_some (variables_of u.vars sid) ≡ alive
  pub queue_here : is_some (loopback_of u.loops sid) ≡ alive
  pub attached_here : (held u sid).attached ≡ (if alive then lo0 else [])
  pub reserved_here : (held u sid).reserved ≡ (held t sid).reserved
  pub arms_here : KnowsArms half_id_eq (arp_of u.arp sid) (timers_of u.wheel sid)
  pub parts_here : parts u sid ≡ parts_if alive
  pub lives_there : ChangesOnly sid (lives t) (lives u)
  pub variables_there : ChangesOnly sid (variables_of t.vars) (variables_of u.vars)
  pub queues_there : ChangesOnly sid (loopback_of t.loops) (loopback_of u.loops)
  pub interfaces_there : ChangesOnly sid (held t) (held u)
  pub arp_there : ChangesOnly sid (arp_of t.arp) (arp_of u.arp)
  pub timers_there : ChangesOnly sid (timers_of t.wheel) (timers_of u.wheel)
  pub parts_there : ChangesOnly sid (parts t) (parts u)
  pub declared : u.vars.declared ≡ t.vars.declared

module _ {t : Tables} (s : IsSound t) {sid : ℕ} (alone : IsAlone sid t) {alive : Bool} {u : Tables} (r : BuildsOrRazes alive sid t u) where
  -- what holds of the stack, and of each other, holds of each
  each : (P : ℕ → Type 0) → P sid → ((q : ℕ) → q ≢ sid → P q) → (q : ℕ) → P q
  each P own others q = ⊎_elim (λ (e : q ≡ sid). subst P (sym e) own) (others q) (cases_eq q sid)

  -- the pairs are what they were
  abbrev rebuilt : Tables
  rebuilt = record u { pairs = t.pairs }

  living : (q : ℕ) → lives u q ≡ (if q == sid then alive else lives t q)
  living = each (λ q. lives u q ≡ (if q == sid then alive else lives t q))
      (r.lives_here ∙ sym (ap (λ b. if b then alive else lives t sid) (eq-eqb sid sid refl)))
      (λ q ne. r.lives_there.others q ne ∙ sym (ap (λ b. if b then alive else lives t q) (ne_eqb q sid ne)))

  -- ---- what each stack has

  tables : (q : ℕ) → lives u q ≡ true → is_sound_parts half_id_eq (parts u q) ≡ true
  tables = each (λ q. lives u q ≡ true → is_sound_parts half_id_eq (parts u q) ≡ true)
      (λ lives_still. ap (is_sound_parts half_id_eq) r.parts_here ∙ own alive (sym r.lives_here ∙ lives_still))
      (λ q ne lives_still. ap (is_sound_parts half_id_eq) (r.parts_there.others q ne) ∙ s.tables q (sym (r.lives_there.others q ne) ∙ lives_still))
    where
      own : (b : Bool) → b ≡ true → is_sound_parts half_id_eq (parts_if b) ≡ true
      own true is = constructed_parts-sound half_id_eq
      own false is = cc

  bare : (q : ℕ) → lives u q ≡ false → parts u q ≡ bare_parts
  bare = each (λ q. lives u q ≡ false → parts u q ≡ bare_parts)
      (λ dead. r.parts_here ∙ own alive (sym r.lives_here ∙ dead))
      (λ q ne dead. r.parts_there.others q ne ∙ s.bare q (sym (r.lives_there.others q ne) ∙ dead))
    where
      own : (b : Bool) → b ≡ false → parts_if b ≡ bare_parts
      own true is = cc
      own false is = refl

  abbrev listed_in : IfOf HalfId → PartsOf HalfId → ℕ
  listed_in on p = count_by (if_same half_id_eq on) p.interfaces

  listed : (q : ℕ) (on : IfOf HalfId) → listed_in on (parts u q) ≡ times_listed rebuilt q on
  listed = each (λ q. (on : IfOf HalfId) → listed_in on (parts u q) ≡ times_listed rebuilt q on)
      (λ on. ap (listed_in on) r.parts_here ∙ here on)
      (λ q ne on. ap (listed_in on) (r.parts_there.others q ne) ∙ s.listed q on ∙ there q ne on)
    where
      lo : (b : Bool) → listed_in Lo0 (parts_if b) ≡ times b
      lo true = refl
      lo false = refl

      no_half : (b : Bool) (h : HalfId) → listed_in (Half h) (parts_if b) ≡ 0
      no_half true h = refl
      no_half false h = refl

      here : (on : IfOf HalfId) → listed_in on (parts_if alive) ≡ times_listed rebuilt sid on
      here Lo0 = lo alive ∙ ap times (sym r.lives_here)
      here (Half h) = no_half alive h ∙ ap times (sym (alone.empty h))

      there : (q : ℕ) → q ≢ sid → (on : IfOf HalfId) → times_listed t q on ≡ times_listed rebuilt q on
      there q ne Lo0 = ap times (sym (r.lives_there.others q ne))
      there q ne (Half h) = refl

  -- ---- names

  names : (q : ℕ) → list_all (is_rightly_named rebuilt) (held u q).attached ≡ true
  names = each (λ q. list_all (is_rightly_named rebuilt) (held u q).attached ≡ true)
      (ap (list_all (is_rightly_named rebuilt)) r.attached_here ∙ own alive)
      (λ q ne. ap (λ (h : Held). list_all (is_rightly_named rebuilt) h.attached) (r.interfaces_there.others q ne) ∙ s.names q)
    where
      own : (b : Bool) → list_all (is_rightly_named rebuilt) (if b then lo0 else []) ≡ true
      own true = refl
      own false = refl

  reserved-same : KeepsNames t rebuilt
  reserved-same = each (λ q. (name : IfName) → reserved_by name (held u q) ≡ reserved_by name (held t q))
      (λ name. ap (lookup (λ k. name_number name == k)) r.reserved_here)
      (λ q ne name. ap (reserved_by name) (r.interfaces_there.others q ne))

  -- ---- all of it

  rebuilt-sound : IsSound rebuilt
  rebuilt-sound = record {
    tables = tables;
    bare = bare;
    instances = each (λ q. is_some (variables_of u.vars q) ≡ lives u q) (r.variables_here ∙ sym r.lives_here)
        (λ q ne. ap is_some (r.variables_there.others q ne) ∙ s.instances q ∙ sym (r.lives_there.others q ne));
    loopbacks = each (λ q. is_some (loopback_of u.loops q) ≡ lives u q) (r.queue_here ∙ sym r.lives_here)
        (λ q ne. ap is_some (r.queues_there.others q ne) ∙ s.loopbacks q ∙ sym (r.lives_there.others q ne));
    declared = r.declared ∙ s.declared;
    listed = listed;
    places = λ h. places h (pair_at t h.pair) (alone.empty h) (s.places h);
    homes = λ n. homes (pair_at t n) (alone.homeless n) (s.homes n);
    names = names;
    once = s.once;
    reserved = λ q name. subst (λ o. IfSome o (λ h. IsHomedAs q name h.side (pair_at t h.pair))) (sym (reserved-same q name)) (s.reserved q name);
    homed = λ h. homed h (pair_at t h.pair) (s.homed h);
    apart = λ h. apart h (pair_at t h.pair) (s.apart h);
    arms = each (λ q. KnowsArms half_id_eq (arp_of u.arp q) (timers_of u.wheel q)) r.arms_here
        (λ q ne. subst (λ arp. KnowsArms half_id_eq arp (timers_of u.wheel q)) (sym (r.arp_there.others q ne)) (subst (KnowsArms half_id_eq (arp_of t.arp q)) (sym (r.timers_there.others q ne)) (s.arms q)));
    queues = s.queues;
  }
    where
      places : (h : HalfId) (o : Option Pair) → stands_at sid h.side o ≡ false → IfSome o (λ pair. lives t (end_of h.side pair).at ≡ true) → IfSome o (λ pair. lives u (end_of h.side pair).at ≡ true)
      places h None elsewhere is = tt
      places h (Some pair) elsewhere is = r.lives_there.others (end_of h.side pair).at (λ e. both_ways _ elsewhere (eq-eqb (end_of h.side pair).at sid e)) ∙ is

      homes : (o : Option Pair) → IfSome o (λ pair. pair.home ≢ sid) → IfSome o (λ pair. lives t pair.home ≡ true) → IfSome o (λ pair. lives u pair.home ≡ true)
      homes None elsewhere is = tt
      homes (Some pair) elsewhere is = r.lives_there.others pair.home elsewhere ∙ is

      homed : (h : HalfId) (o : Option Pair) → IfSome o (λ pair. reserved_by (ifname.Epair pair.unit h.side) (held t pair.home) ≡ Some h) → IfSome o (λ pair. reserved_by (ifname.Epair pair.unit h.side) (held u pair.home) ≡ Some h)
      homed h None is = tt
      homed h (Some pair) is = reserved-same pair.home (ifname.Epair pair.unit h.side) ∙ is

      apart : (h : HalfId) (o : Option Pair) → IfSome o (λ pair. is_another (reserved_by (ifname.Epair pair.unit h.side) (held t (end_of h.side pair).at)) (Some h) ≡ false)
          → IfSome o (λ pair. is_another (reserved_by (ifname.Epair pair.unit h.side) (held u (end_of h.side pair).at)) (Some h) ≡ false)
      apart h None is = tt
      apart h (Some pair) is = ap (λ b. is_another b (Some h)) (reserved-same (end_of h.side pair).at (ifname.Epair pair.unit h.side)) ∙ is

  -- the stack alone has other tables
  pub rebuilds : Rebuilds alive (parts_if alive) sid t (record u { pairs = t.pairs })
  rebuilds = record {
    here = r.parts_here;
    others = r.parts_there;
    living = living;
    pairs = refl;
    names = reserved-same;
    sound = rebuilt-sound;
  }
