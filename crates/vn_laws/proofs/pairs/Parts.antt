-- The tables of a stack to which a half is attached, or from which it is taken out.
use Rattle.std.proofs.Common.{◌≡◌, ◌==◌, Bool, true, false, ◌&&◌, ◌||◌, not, List, [], ◌∷◌, map, refl, sym, ap, ◌∙◌}
use Rattle.std.specs.List.{list_any, list_all}
use Rattle.std.proofs.lemmas.Bool.{and_parts, and_from, true≢false, not-true}
use Rattle.vn_types.specs.declared.address.Ip4.{Ip4}
use Rattle.vn_types.specs.declared.half.Half.{Half}
use Rattle.vn_types.specs.declared.interface.IfOf.TheVariants.{Half as OfHalf}
use Rattle.vn_rules.specs.declared.arp.ArpEntryOf.{ArpEntryOf}
use Rattle.vn_rules.specs.declared.timer.TimerOf.TheVariants.{Arp, Ping}
use Rattle.vn_rules.specs.declared.parts.PartsOf.{PartsOf}
use Rattle.vn_rules.specs.Interfaces.{named_ifs, is_among, is_timer_of}
use Rattle.vn_rules.specs.Purge.{purged}
use Rattle.vn_rules.specs.Timers.{Timed}
use Rattle.vn_rules.specs.Soundness.{owns_timers, times_arp, has_owner, is_sound_parts}
use Rattle.vn_rules.proofs.InterfaceLaws.{with_interface-sound, without_interface-sound}
use Rattle.vn_rules.proofs.Kept.{none_from_all}
use Rattle.vn_rules.proofs.Named.{own_names, names_from}
use Rattle.vn_rules.proofs.Purged.{purged-names, purged-interfaces, purged-timers, purged-stopped, purged-forgotten, purged-sound}
use Rattle.vn_rules.proofs.SoundFacts.{facts_from_sound}
use Rattle.vn_cells.specs.world.Names.{If, if_eq, half_eq}
use Rattle.vn_cells.specs.keeping.Moved.{forgets}
use Rattle.vn_cells.specs.commands.Pairs.{attached, detached}
use Rattle.vn_laws.proofs.edits.Names.{half_eq-Decides}
use Rattle.vn_laws.proofs.edits.Tests.{neither}
use Rattle.vn_laws.proofs.pairs.Listed.{but, has, if_eq-is}

-- ---- a half that isn't listed

-- what is not listed is not named
none_named : (h : Half) (ifs ons : List If) → list_all (is_among half_eq ifs) ons ≡ true → has h ifs ≡ false → has h ons ≡ false
none_named h ifs [] e out = refl
none_named h ifs (on ∷ ons) e out = by (if_eq (OfHalf h) on) refl (none_named h ifs ons (and_parts _ _ e).1 out)
  where
    by : (b : Bool) → if_eq (OfHalf h) on ≡ b → has h ons ≡ false → (b || has h ons) ≡ false
    by true f ih =
        absurd (true≢false (sym (and_parts _ _ e).0 ∙ ap (λ x. list_any (if_eq x) ifs) (sym (if_eq-is (OfHalf h) on f)) ∙ out))
    by false f ih = ih

-- a timer on the half is no entry's
no_owner : (h half : Half) (ip : Ip4) (entries : List (ArpEntryOf Half)) → half_eq half h ≡ true
    → has h (map (λ (e : ArpEntryOf Half). OfHalf e.half) entries) ≡ false
    → list_any (λ (a : ArpEntryOf Half). half_eq half a.half && (ip.0 == a.ip.0)) entries ≡ false
no_owner h half ip [] same free = refl
no_owner h half ip (a ∷ entries) same free =
    let apart = neither _ _ free in
    let first : half_eq half a.half ≡ false = ap (λ k. half_eq k a.half) ((half_eq-Decides half h).0 same) ∙ apart.0 in
    ap (λ b. (b && (ip.0 == a.ip.0)) || list_any (λ (a : ArpEntryOf Half). half_eq half a.half && (ip.0 == a.ip.0)) entries) first
    ∙ no_owner h half ip entries same apart.1

none_timed : (h : Half) (p : PartsOf Half) (es : List (Timed Half)) → list_all (has_owner half_eq p) es ≡ true
    → has h (map (λ (e : ArpEntryOf Half). OfHalf e.half) p.arp) ≡ false
    → list_any (λ (e : Timed Half). is_timer_of half_eq h e.1) es ≡ false
none_timed h p [] all free = refl
none_timed h p ((at, Ping id arm) ∷ es) all free = none_timed h p es (and_parts _ _ all).1 free
none_timed h p ((at, Arp half ip) ∷ es) all free = by (half_eq half h) refl (none_timed h p es (and_parts _ _ all).1 free)
  where
    by : (b : Bool) → half_eq half h ≡ b → list_any (λ (e : Timed Half). is_timer_of half_eq h e.1) es ≡ false
        → (b || list_any (λ (e : Timed Half). is_timer_of half_eq h e.1) es) ≡ false
    by true e ih = absurd (true≢false (sym (and_parts _ _ all).0 ∙ no_owner h half ip p.arp e free))
    by false e ih = ih

-- a sound stack keeps nothing of a half that doesn't stand there
pub forgets-unlisted : (h : Half) (p : PartsOf Half) → is_sound_parts half_eq p ≡ true → has h p.interfaces ≡ false → forgets h p ≡ true
unfolding owns_timers
forgets-unlisted h p sound out =
    let facts = facts_from_sound half_eq (times_arp half_eq) p sound in
    let named = names_from (is_among half_eq p.interfaces) p (own_names half_eq (times_arp half_eq) p facts) in
    and_from _ _ (ap not (none_named h p.interfaces (named_ifs p) named out))
    (ap not (none_timed h p p.timers.standing facts.owned
    (none_named h p.interfaces (map (λ (e : ArpEntryOf Half). OfHalf e.half) p.arp) facts.arp_names out)))

-- ---- attached

pub attached-sound : (h : Half) (p : PartsOf Half) → is_sound_parts half_eq p ≡ true → is_sound_parts half_eq (attached h p) ≡ true
attached-sound h p sound = with_interface-sound half_eq p (OfHalf h) sound

pub attached-forgets : (g h : Half) (p : PartsOf Half) → forgets g (attached h p) ≡ forgets g p
unfolding named_ifs
attached-forgets g h p = refl

-- ---- purged and taken out

pub detached-interfaces : (h : Half) (p : PartsOf Half) → (detached h p).interfaces ≡ but h p.interfaces
detached-interfaces h p = ap (but h) (purged-interfaces half_eq h p)

pub detached-sound : (h : Half) (p : PartsOf Half) → is_sound_parts half_eq p ≡ true → is_sound_parts half_eq (detached h p) ≡ true
detached-sound h p sound =
    without_interface-sound half_eq (purged half_eq h p) half_eq-Decides (OfHalf h)
    (purged-forgotten half_eq h p half_eq-Decides) (purged-sound half_eq h p half_eq-Decides sound)

pub detached-forgets : (h : Half) (p : PartsOf Half) → forgets h (detached h p) ≡ true
unfolding named_ifs
detached-forgets h p =
    and_from _ _ (ap not (purged-forgotten half_eq h p half_eq-Decides)) (ap not (purged-stopped half_eq h p))

all_apart : (f : If → Bool) (ons : List If) → list_any f ons ≡ false → list_all (λ on. not (f on)) ons ≡ true
all_apart f [] e = refl
all_apart f (on ∷ ons) e = let apart = neither _ _ e in and_from _ _ (ap not apart.0) (all_apart f ons apart.1)

-- what kept nothing of a half keeps nothing of it
pub detached-fewer : (g h : Half) (p : PartsOf Half) → forgets g p ≡ true → forgets g (detached h p) ≡ true
unfolding named_ifs
detached-fewer g h p e =
    let parts = and_parts (not (is_among half_eq (named_ifs p) (OfHalf g))) _ e in
    let f : If → Bool = if_eq (OfHalf g) in
    let free = none_from_all f (λ on. not (f on)) (named_ifs (purged half_eq h p)) (λ on. not-true (f on))
    (purged-names half_eq h p (λ on. not (f on)) (all_apart f (named_ifs p) (not-true _ parts.0))) in
    and_from _ _ (ap not free)
    (ap not (purged-timers half_eq h p (λ (e : Timed Half). is_timer_of half_eq g e.1) (not-true _ parts.1)))
