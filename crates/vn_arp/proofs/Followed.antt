-- What was done to the entries and the timers is what the rules say.
use Rattle.std.proofs.Common.{◌≡◌, ℕ, zero, suc, ◌+◌, Bool, true, false, cond, not, ◌||◌, ◌==◌, List, [], ◌∷◌, ◌++◌, Option, Some, None, refl, sym, ap, subst, ◌∙◌}
use Rattle.std.specs.Prelude.{is_some, is_none, slice_set}
use Rattle.std.specs.List.{filter}
use Rattle.std.specs.Option.{option_map, option_map_or}
use Rattle.vn_types.specs.declared.address.Mac.{Mac}
use Rattle.vn_types.specs.declared.address.Ip4.{Ip4}
use Rattle.vn_types.specs.declared.interface.HalfId.{HalfId}
use Rattle.vn_types.specs.Interfaces.{half_id_eq}
use Rattle.vn_types.proofs.InterfaceNames.{half_id_eq-Decides}
use Rattle.vn_rules.specs.declared.arp.ArpEntryOf.{ArpEntryOf}
use Rattle.vn_rules.specs.declared.arp.ArpState.TheVariants.{Learnt}
use Rattle.vn_rules.specs.declared.parts.PartsOf.{PartsOf}
use Rattle.vn_rules.specs.declared.timer.TimersOf.{TimersOf}
use Rattle.vn_rules.specs.declared.timer.TimerOf.TheVariants.{Arp}
use Rattle.vn_rules.specs.Arp.{entry_of, hit, holding, is_down, is_place, new_entry, resolved, timer_at, with_entry, without_entries, without_timer_at, without_timers_where}
use Rattle.vn_rules.specs.Resolution.{TurnOf, Ask, GivesUp, Removed, adds, after_arp_delete, after_hold, after_input, after_static, after_turn, asked, down_time, given_up, learnt_time, merges, request_time, timed_entry, turn_of, turned, untimed}
use Rattle.vn_rules.specs.Soundness.{has_distinct_entries}
use Rattle.vn_rules.specs.Timers.{after_arm}
use Rattle.vn_arp.specs.declared.answers.Turn.{Turn}
use Rattle.vn_arp.specs.declared.answers.Turn.TheVariants as turn
use Rattle.vn_arp.specs.declared.change.Change.{Change}
use Rattle.vn_arp.specs.declared.change.Change.TheVariants as change
use Rattle.vn_arp.specs.Answers.{after_resolution, turn_as}
use Rattle.vn_arp.specs.Changes.{after_change, armed_for, changed}
use Rattle.vn_arp.specs.Kept.{KnowsArms, Follows, entries_of, parts_with}
use Rattle.vn_arp.specs.Listing.{at_of}
use Rattle.vn_arp.specs.Stacks.{of}
use Rattle.vn_arp.proofs.Removal.{gone-stopped}
use Rattle.vn_arp.proofs.Edits.{Kept, changed_at, put_new, untaken, untimed_absent}

abbrev Parts : Type 0
Parts = PartsOf HalfId

-- ---- whether there is an entry

pub some_there : {A : Type 0} (o : Option A) → is_some o ≡ true → is_none o ≡ false
some_there None is = cc
some_there (Some x) is = refl

pub none_there : {A : Type 0} (o : Option A) → is_some o ≡ false → o ≡ None
none_there None is = refl
none_there (Some x) is = cc

module _ (rows new : List Kept) (t after : TimersOf HalfId) where
  same_parts : (es : List (ArpEntryOf HalfId)) (ts : TimersOf HalfId) → entries_of new ≡ es → after ≡ ts → (p : Parts) → parts_with new after p ≡ record p { arp = es; timers = ts }
  same_parts es ts is at p = λ i. record p { arp = is i; timers = at i }

  -- entries that go, with their timers
  pub removed : (gone : HalfId → Ip4 → Bool) → entries_of new ≡ filter (λ (e : ArpEntryOf HalfId). not (gone e.half e.ip)) (entries_of rows) → after ≡ without_timers_where gone t
      → Follows (without_entries gone) rows t new after
  unfolding without_entries
  removed gone left stopped = record { parts = λ p. same_parts _ _ left stopped p }

  pub deleted : (ip : Ip4) → entries_of new ≡ filter (λ (e : ArpEntryOf HalfId). not (e.ip.0 == ip.0)) (entries_of rows) → after ≡ without_timers_where (λ half own. own.0 == ip.0) t
      → Follows (after_arp_delete ip) rows t new after
  unfolding without_entries after_arp_delete
  deleted ip left stopped = record { parts = λ p. same_parts _ _ left stopped p }

  module _ (half : HalfId) (ip : Ip4) where
    abbrev found : Option (ArpEntryOf HalfId)
    found = entry_of half_id_eq half ip (entries_of rows)

    -- ---- an entry changes, and its timer with it

    pub made_so : (to : Change) (deadline : Option ℕ) → entries_of new ≡ with_entry half_id_eq half ip (changed to) (entries_of rows)
        → after ≡ armed_for deadline (Arp half ip) (without_timer_at half_id_eq half ip t) → Follows (after_change half_id_eq to deadline half ip) rows t new after
    made_so to deadline is at = record { parts = λ p. same_parts _ _ is at p }

    -- it is made where there was none, and no timer
    pub made_first : (to : Change) (deadline : Option ℕ) (e : ArpEntryOf HalfId) → KnowsArms half_id_eq rows t → found ≡ None → e ≡ changed to (new_entry half ip)
        → entries_of new ≡ entries_of rows ++ e ∷ [] → after ≡ armed_for deadline (Arp e.half e.ip) t → Follows (after_change half_id_eq to deadline half ip) rows t new after
    made_first to deadline e known absent made is at =
        made_so to deadline (is ∙ ap (λ e. entries_of rows ++ e ∷ []) made ∙ put_new half ip (changed to) (entries_of rows) absent)
        (at ∙ (λ i. armed_for deadline (Arp (place i).half (place i).ip) (untimed_absent half ip rows t known absent i)))
      where
        place : at_of e ≡ at_of (new_entry half ip)
        place = ap at_of made ∙ changed_at to (new_entry half ip)

    -- ---- a datagram is held

    pub held : (now : ℕ) (octets : List ℕ) → is_some found ≡ true → entries_of new ≡ with_entry half_id_eq half ip (holding octets) (entries_of rows) → after ≡ t
        → Follows (after_hold half_id_eq now half ip octets) rows t new after
    unfolding after_hold
    held now octets there is at = record {
      parts = λ p.
          same_parts _ _ is at p
          ∙ ap (λ b. cond b (timed_entry half_id_eq (now + request_time) half ip (holding octets) (parts_with rows t p)) (record p { arp = with_entry half_id_eq half ip (holding octets) (entries_of rows); timers = t }))
          (sym (some_there found there));
    }

    pub held_first : (now : ℕ) (octets : List ℕ) → is_some found ≡ false → entries_of new ≡ entries_of rows ++ holding octets (new_entry half ip) ∷ [] → after ≡ after_arm (now + request_time) (Arp half ip) t
        → Follows (after_hold half_id_eq now half ip octets) rows t new after
    unfolding after_hold
    held_first now octets absent is at = record {
      parts = λ p.
          same_parts _ _ (is ∙ put_new half ip (holding octets) (entries_of rows) (none_there found absent)) at p
          ∙ ap (λ b. cond b (timed_entry half_id_eq (now + request_time) half ip (holding octets) (parts_with rows t p)) (record p { arp = with_entry half_id_eq half ip (holding octets) (entries_of rows); timers = t }))
          (sym (ap is_none (none_there found absent)));
    }

    -- where it is neither sent nor refused at once
    pub unsettled : (now : ℕ) (octets : List ℕ) → hit half_id_eq half ip (entries_of rows) ≡ None → is_down half_id_eq half ip (entries_of rows) ≡ false
        → Follows (after_hold half_id_eq now half ip octets) rows t new after → Follows (after_resolution half_id_eq now half ip octets) rows t new after
    unsettled now octets unknown up follows = record {
      parts = λ p.
          follows.parts p
          ∙ (λ i. cond (is_some (sym unknown i) || sym up i) (parts_with rows t p) (after_hold half_id_eq now half ip octets (parts_with rows t p)));
    }

    -- ---- a packet tells the hardware address

    -- whether it does
    abbrev pub learns : Bool → Bool
    learns is_target = merges half_id_eq half ip (entries_of rows) || adds half_id_eq half ip is_target (entries_of rows)

    module _ (now : ℕ) (mac : Mac) (is_target : Bool) where
      learn_if : Bool → Parts → Parts
      learn_if b p = cond b (timed_entry half_id_eq (now + learnt_time) half ip (resolved Learnt mac) (untimed half_id_eq half ip p)) p

      pub learnt : learns is_target ≡ true → Follows (after_change half_id_eq (change.Learnt mac) (Some (now + learnt_time)) half ip) rows t new after
          → Follows (after_input half_id_eq now half ip mac is_target) rows t new after
      unfolding after_input learn_if
      learnt learning follows = record { parts = λ p. follows.parts p ∙ ap (λ b. learn_if b (parts_with rows t p)) (sym learning) }

      pub not_learnt : learns is_target ≡ false → entries_of new ≡ entries_of rows → after ≡ t → Follows (after_input half_id_eq now half ip mac is_target) rows t new after
      unfolding after_input learn_if
      not_learnt none is at = record { parts = λ p. same_parts _ _ is at p ∙ ap (λ b. learn_if b (parts_with rows t p)) (sym none) }

    -- ---- by hand

    pub set : (mac : Mac) → Follows (after_change half_id_eq (change.Static mac) None half ip) rows t new after → Follows (after_static half_id_eq half ip mac) rows t new after
    unfolding after_static
    set mac follows = record { parts = λ p. follows.parts p }

    -- ---- a timer's turn

    IsTurn : TurnOf → Type 0
    IsTurn w = option_map (λ (e : ArpEntryOf HalfId). turn_as (turn_of e)) found ≡ Some (turn_as w)

    turn_back : (v w : TurnOf) → turn_as v ≡ turn_as w → v ≡ w
    turn_back Ask Ask is = refl
    turn_back Ask (GivesUp n) is = cc
    turn_back Ask Removed is = cc
    turn_back (GivesUp m) Ask is = cc
    turn_back (GivesUp m) (GivesUp n) is = cc
    turn_back (GivesUp m) Removed is = cc
    turn_back Removed Ask is = cc
    turn_back Removed (GivesUp n) is = cc
    turn_back Removed Removed is = refl

    -- the timer of which it is the turn stands no more
    none_stopped : (f : ArpEntryOf HalfId → ArpEntryOf HalfId) (deadline : ℕ) → timer_at half_id_eq half ip t ≡ None → (p : Parts)
        → timed_entry half_id_eq deadline half ip f (untimed half_id_eq half ip (parts_with rows t p)) ≡ timed_entry half_id_eq deadline half ip f (parts_with rows t p)
    none_stopped f deadline taken p = ap (λ u. timed_entry half_id_eq deadline half ip f (parts_with rows u p)) (untaken half ip t taken)

    turns : (now : ℕ) (w : TurnOf) → IsTurn w → (p : Parts) → turned half_id_eq now half ip (parts_with rows t p) w ≡ after_turn half_id_eq now half ip (parts_with rows t p)
    unfolding after_turn IsTurn
    turns now w is p = by found refl
      where
        by : (o : Option (ArpEntryOf HalfId)) → found ≡ o → turned half_id_eq now half ip (parts_with rows t p) w ≡ option_map_or (λ (e : ArpEntryOf HalfId). turned half_id_eq now half ip (parts_with rows t p) (turn_of e)) o (parts_with rows t p)
        by None so = let none : None ≡ Some (turn_as w) = sym (ap (option_map (λ (e : ArpEntryOf HalfId). turn_as (turn_of e))) so) ∙ is in cc
        by (Some e) so =
            let one : Some (turn_as (turn_of e)) ≡ Some (turn_as w) = sym (ap (option_map (λ (e : ArpEntryOf HalfId). turn_as (turn_of e))) so) ∙ is in
            let back : turn_as (turn_of e) ≡ turn_as w = cc in
            ap (turned half_id_eq now half ip (parts_with rows t p)) (sym (turn_back (turn_of e) w back))

    module _ (now : ℕ) (told : Turn) (is_told : Some told ≡ option_map (λ (e : ArpEntryOf HalfId). turn_as (turn_of e)) found) where
      pub turned_ask : told ≡ turn.Ask → timer_at half_id_eq half ip t ≡ None → Follows (after_change half_id_eq change.Asked (Some (now + request_time)) half ip) rows t new after
          → Follows (after_turn half_id_eq now half ip) rows t new after
      unfolding IsTurn
      turned_ask so taken follows = record { parts = λ p. follows.parts p ∙ none_stopped asked (now + request_time) taken p ∙ turns now Ask (sym is_told ∙ ap Some so) p }

      pub turned_down : (n : ℕ) → told ≡ turn.WentDown n → timer_at half_id_eq half ip t ≡ None → Follows (after_change half_id_eq change.Down (Some (now + down_time)) half ip) rows t new after
          → Follows (after_turn half_id_eq now half ip) rows t new after
      unfolding IsTurn
      turned_down n so taken follows = record { parts = λ p. follows.parts p ∙ none_stopped given_up (now + down_time) taken p ∙ turns now (GivesUp n) (sym is_told ∙ ap Some so) p }

      pub turned_out : told ≡ turn.Removed → entries_of new ≡ filter (λ (e : ArpEntryOf HalfId). not (is_place half_id_eq half ip e.half e.ip)) (entries_of rows)
          → after ≡ without_timers_where (is_place half_id_eq half ip) t → Follows (after_turn half_id_eq now half ip) rows t new after
      unfolding IsTurn without_entries
      turned_out so is at = record { parts = λ p. same_parts _ _ is at p ∙ turns now Removed (sym is_told ∙ ap Some so) p }

-- where nothing is kept of a stack, it has no timer of an entry
pub removed_nowhere : (gone : HalfId → Ip4 → Bool) (t : TimersOf HalfId) → (rows : List Kept) → rows ≡ [] → KnowsArms half_id_eq rows t → Follows (without_entries gone) rows t rows t
unfolding has_distinct_entries
removed_nowhere gone t rows none known =
    removed rows rows t t gone
    (ap entries_of none ∙ sym (ap (λ rows. filter (λ (e : ArpEntryOf HalfId). not (gone e.half e.ip)) (entries_of rows)) none))
    (gone-stopped half_id_eq half_id_eq-Decides gone [] t (subst (λ rows. KnowsArms half_id_eq rows t) none known) refl)

-- a row that was written is read back, also where there was no room for it, since then nothing is in it
pub written_row : (stacks : List (List Kept)) (sid : ℕ) (row : List Kept) → (of stacks sid ≡ [] → row ≡ []) → of (slice_set stacks sid row) sid ≡ row
written_row [] sid row empty = sym (empty refl)
written_row (rows ∷ stacks) zero row empty = refl
written_row (rows ∷ stacks) (suc sid) row empty = written_row stacks sid row empty

-- where there was no entry, none is left
pub none_left : (gone : HalfId → Ip4 → Bool) (rows new : List Kept) → entries_of new ≡ filter (λ (e : ArpEntryOf HalfId). not (gone e.half e.ip)) (entries_of rows) → rows ≡ [] → new ≡ []
none_left gone rows [] left none = refl
none_left gone rows (k ∷ new) left none = cc (left ∙ ap (λ rows. filter (λ (e : ArpEntryOf HalfId). not (gone e.half e.ip)) (entries_of rows)) none)
