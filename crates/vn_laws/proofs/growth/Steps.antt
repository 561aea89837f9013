-- One event: what it arms and counts.
use Rattle.std.proofs.Common.{◌≡◌, ℕ, ◌+◌, Bool, true, false, List, None, Some}
use Rattle.vn_types.specs.declared.half.Half.{Half}
use Rattle.vn_types.specs.declared.interface.IfName.TheVariants.{Lo0, Epair}
use Rattle.vn_rules.specs.Construction.{no_drops}
use Rattle.vn_rules.specs.Rules.{Common}
use Rattle.vn_cells.specs.declared.event.Event.{Event}
use Rattle.vn_cells.specs.declared.event.Event.TheVariants as event
use Rattle.vn_cells.specs.declared.world.World.{World}
use Rattle.vn_cells.specs.world.Names.{Path}
use Rattle.vn_cells.specs.world.World.{common_of}
use Rattle.vn_cells.specs.commands.Taken.{standing, lowest_free}
use Rattle.vn_cells.specs.machine.Commands.{far_rule}
use Rattle.vn_cells.specs.machine.Reach.{Reach, reach, Near, MakesJail, RemovesJail, MakesPair, DestroysPair, SetsMac, Lends, Reclaims, MovesLo0}
use Rattle.vn_cells.specs.machine.Local.{here_at, hearing, local, act, act_by}
use Rattle.vn_cells.specs.machine.Queues.{taken}
use Rattle.vn_cells.specs.machine.Step.{acting, acted, step}
use Rattle.vn_cells.specs.keeping.Sound.{IsSound}
use Rattle.vn_laws.proofs.growth.Acted.{counted-act_by}
use Rattle.vn_laws.proofs.growth.Edits.{Counted, counted-weaker, counted-shape, counted-each_pair}
use Rattle.vn_laws.proofs.growth.Jails.{counted-created, counted-removed}
use Rattle.vn_laws.proofs.growth.Links.{counted-made_pair, counted-lowest, counted-destroyed_by, counted-with_mac_on, counted-moved_on}
use Rattle.vn_laws.proofs.growth.Numbers.{Numbers, is_small, small-more, small-falls, none-small, Falls}
use Rattle.vn_laws.proofs.growth.Near.{counted-heard, counted-local}
use Rattle.vn_laws.proofs.local.Acted.{scene-given}
use Rattle.vn_laws.proofs.local.Delivered.{either_heard, sound-taken}
use Rattle.vn_laws.proofs.local.Events.{shape-later, either_acted}
use Rattle.vn_laws.proofs.rule.Answers.{shape-entered, commanded-keeps}

-- a command that reaches beyond its stack arms no timer and counts nothing
counted-far : {test : Numbers → Bool} → Falls test → test (0, (no_drops, 0)) ≡ true → {v : World} → Counted test v → (common : Common) (issuer : Path) (r : Reach)
    → Counted test (far_rule common issuer r v).otherwise.left
unfolding far_rule
counted-far falls none c common issuer Near = c
counted-far falls none c common issuer (MakesJail p limit) = counted-created falls none c common.clock p limit
counted-far falls none c common issuer (RemovesJail p) = counted-removed falls c common.clock p
counted-far falls none {v} c common issuer (MakesPair None) = counted-lowest falls c issuer (lowest_free v issuer)
counted-far falls none c common issuer (MakesPair (Some unit)) = counted-made_pair falls c (issuer, unit)
counted-far falls none {v} c common issuer (DestroysPair unit side) = counted-destroyed_by falls c (standing v issuer (Epair unit side))
counted-far falls none {v} c common issuer (SetsMac unit side mac) = counted-with_mac_on falls c (standing v issuer (Epair unit side)) mac
counted-far falls none {v} c common issuer (Lends unit side jail) = counted-moved_on falls c (standing v issuer (Epair unit side)) issuer jail
counted-far falls none {v} c common issuer (Reclaims unit side jail) = counted-moved_on falls c (standing v jail (Epair unit side)) jail issuer
counted-far falls none {v} c common issuer (MovesLo0 jail true) = counted-moved_on falls c (standing v issuer Lo0) issuer jail
counted-far falls none {v} c common issuer (MovesLo0 jail false) = counted-moved_on falls c (standing v jail Lo0) jail issuer

module _ (n : ℕ) {v : World} (s : IsSound v) (c : Counted (is_small n) v) where
  still : Counted (is_small (n + 1)) v
  still = counted-weaker (small-more n) c

  small-act : (p : Path) (event : Event) → Counted (is_small (n + 1)) (act v p event)
  small-act p event = counted-act_by (small-more n) local c p event (counted-local n (common_of v) p (here_at v p) event (scene-given s p))

  small-acted : (event : Event) → Counted (is_small (n + 1)) (acted (acting v event) event v)
  small-acted event = either_acted (Counted (is_small (n + 1))) (acting v event) event v still (λ p. small-act p event)

  taken-small : (h : Half) → Counted (is_small n) (taken h v)
  unfolding taken
  taken-small h = counted-each_pair c _

  small-heard : (h : Half) (p : Path) (frame : List ℕ) → Counted (is_small (n + 1)) (act_by (hearing h frame) (taken h v) p (event.Deliver h))
  small-heard h p frame =
      counted-act_by (small-more n) (hearing h frame) (taken-small h) p (event.Deliver h)
      (counted-heard n h frame (common_of (taken h v)) p (here_at (taken h v) p) (event.Deliver h) (scene-given (sound-taken h v s) p))

  -- an event more
  pub small-step : (event : Event) → Counted (is_small (n + 1)) (step v event)
  unfolding step
  small-step (event.Cmd lane issuer command) =
      commanded-keeps (Counted (is_small (n + 1))) lane issuer command v still
      (λ a d. counted-shape d (shape-entered v.clock lane issuer command a))
      (small-act issuer (event.Cmd lane issuer command))
      (λ none. counted-far (small-falls (n + 1)) (none-small (n + 1)) still (common_of v) issuer (reach issuer command))
  small-step (event.Tick k) = counted-shape still (shape-later k v)
  small-step (event.Deliver half) = either_heard (Counted (is_small (n + 1))) half v still (λ p frame is. small-heard half p frame)
  small-step event = small-acted event
