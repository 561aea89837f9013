-- A half that is lent or taken back by numbers: the world's answer.
use Rattle.std.proofs.Common.{◌≡◌, ◌↔◌, ◌<◌, Bool, true, false, [], ◌∷◌, length, Option, Some, None, IfSome, IsSome, unwrap_or, refl, sym, ap, ap₂, ◌∙◌, subst, arith}
use Rattle.std.specs.Option.{is_none, option_map}
use Rattle.std.proofs.lemmas.Bool.{false_from_ne_true, false≢true, true≢false}
use Rattle.vn_types.specs.declared.errno.Errno.{Errno}
use Rattle.vn_types.specs.declared.errno.Errno.TheVariants as errno
use Rattle.vn_types.specs.declared.interface.HalfId.{HalfId}
use Rattle.vn_types.specs.declared.interface.IfName.{IfName}
use Rattle.vn_types.specs.declared.interface.IfOf.{IfOf}
use Rattle.vn_types.specs.declared.interface.IfOf.TheVariants.{Lo0, Half as OfHalf}
use Rattle.vn_types.specs.declared.interface.Sid.{Sid}
use Rattle.vn_types.specs.Interfaces.{as_if}
use Rattle.vn_types.specs.Paths.{Path, is_under}
use Rattle.vn_types.specs.Refusals.{first_refusal}
use Rattle.vn_types.proofs.Options.{none_some}
use Rattle.vn_types.proofs.RefusalLaws.{none-applies}
use Rattle.vn_rules.specs.Named.{is_lo0}
use Rattle.vn_rules.specs.declared.outcome.Outcome.TheVariants.{Done, Refused}
use Rattle.vn_rules.specs.Rules.{Rule, answer}
use Rattle.vn_epair.specs.Halves.{Pair}
use Rattle.vn_epair.specs.Pairs.{end_of, new_pair, pair_of}
use Rattle.vn_ifnet.specs.Stacks.{named}
use Rattle.vn_jail.specs.Tree.{at, is_alive, number_of, path_at}
use Rattle.vn_jail.proofs.Numbers.{within}
use Rattle.vn_vmove.specs.declared.tables.Tables.{Tables}
use Rattle.vn_vmove.specs.Moves.{lend_refusal, may_have as may_have_half, moved_on, reclaim_refusal, standing as standing_in}
use Rattle.vn_vmove.specs.Nets.{Becomes, net_of}
use Rattle.vn_vmove.specs.Parts.{held, lives as lives_in, pair_at}
use Rattle.vn_vmove.specs.Sound.{IsSound}
use Rattle.vn_cells.specs.declared.world.World.{World}
use Rattle.vn_cells.specs.commands.Moves.{lending, moved as moved_half, moved_on as moved_if, reclaiming}
use Rattle.vn_cells.specs.commands.Taken.{may_have, standing}
use Rattle.vn_kernel.specs.Fields.{Fields}
use Rattle.vn_kernel.specs.Naming.{home_by, name_of}
use Rattle.vn_kernel.specs.Stands.{Answered, Grows, Stands}
use Rattle.vn_kernel.specs.Worlds.{world_of}
use Rattle.vn_kernel.proofs.Answering.{answered-done, answered-left}
use Rattle.vn_kernel.proofs.moving.Found.{found-pair, home-alive}
use Rattle.vn_kernel.proofs.moving.Moved.{moved_stands, moved_world, same_stands, same_world}
use Rattle.vn_kernel.proofs.moving.Refused.{IsNumberOf, lend-refused, number-lives, number-path, reclaim-refused, standing-same}

-- ---- tables alone change

-- no number was given
grows-same : (f : Fields) (u : Tables) → length u.pairs ≡ length f.tables.pairs → Grows f (record f { tables = u })
grows-same f u same = record { jails = omega arith; pairs = omega arith }

module _ (f : Fields) (s : Stands f) (rule : Rule World) (u : Tables) (sound : IsSound u) where
  -- a command that is refused leaves all as it was
  refused : (bad : Errno) → first_refusal rule.refusals ≡ Some bad → Becomes (net_of f.tables) f.tables u
      → Answered (answer (world_of f) rule) (Refused bad) f (record f { tables = u })
  refused bad is b = answered-left f rule (record f { tables = u }) bad is
      (record { world = same_world f u b; stands = same_stands f u b s sound; grows = grows-same f u b.numbers; read = refl })

  -- one that nothing refuses does what its rule says
  ran : first_refusal rule.refusals ≡ None → rule.otherwise.outcome ≡ Done → world_of (record f { tables = u }) ≡ rule.otherwise.left → Stands (record f { tables = u })
      → length u.pairs ≡ length f.tables.pairs → Answered (answer (world_of f) rule) Done f (record f { tables = u })
  ran none outcome world stands numbers = answered-done f rule (record f { tables = u }) Done none (sym outcome)
      (record { world = world; stands = stands; grows = grows-same f u numbers; read = refl })

-- ---- what stands under a name moves

module _ (f : Fields) (s : Stands f) (p q : Path) (from to : Sid) (at_p : IsNumberOf s p (Some from)) (at_q : IsNumberOf s q (Some to)) (u : Tables) (sound : IsSound u) where
  lives : (r : Path) (sid : Sid) → IsNumberOf s r (Some sid) → (at f.jails sid.0).alive ≡ true
  lives r sid is = ap (λ n. (at f.jails n).alive) is.1 ∙ number-lives s r is.0

  path_is : (r : Path) (sid : Sid) → IsNumberOf s r (Some sid) → path_at f.jails sid.0 ≡ r
  path_is r sid is = ap (path_at f.jails) is.1 ∙ number-path s r is.0

  -- the world, and that all stands
  moved-if : (name : IfName) (on : Option (IfOf HalfId)) → standing_in f.tables name (Some from) ≡ on → Becomes (moved_on on (Some from) (Some to) (net_of f.tables)) f.tables u
      → (world_of (record f { tables = u }) ≡ moved_if (option_map (as_if (name_of f)) on) p q (world_of f)) × Stands (record f { tables = u })
  unfolding moved_on moved_if
  moved-if name None is b = (same_world f u b, same_stands f u b s sound)
  moved-if name (Some Lo0) is b = (same_world f u b, same_stands f u b s sound)
  moved-if name (Some (OfHalf h)) is b =
      let there = found-pair s from.0 name h (sym is) in (
        moved_world f s h there.0 there.1 from.0 to.0 u b (lives p from at_p) (lives q to at_q)
            ∙ ap₂ (λ x y. moved_half (name_of f h) x y (world_of f)) (path_is p from at_p) (path_is q to at_q),
        moved_stands f s h there.0 there.1 from.0 to.0 u b sound,
      )

  moved-standing : (name : IfName) → Becomes (moved_on (standing_in f.tables name (Some from)) (Some from) (Some to) (net_of f.tables)) f.tables u
      → (world_of (record f { tables = u }) ≡ moved_if (standing (world_of f) p name) p q (world_of f)) × Stands (record f { tables = u })
  moved-standing name b =
      let m = moved-if name (standing_in f.tables name (Some from)) refl b in
      (m.0 ∙ ap (λ on. moved_if on p q (world_of f)) (sym (standing-same s p (Some from) name at_p)), m.1)

-- ---- the answers

module _ (f : Fields) (s : Stands f) (issuer : Path) (name : IfName) (u : Tables) (sound : IsSound u) where
  -- vnet
  module _ (to : Path) (from : Sid) (target : Option Sid) (at_issuer : IsNumberOf s issuer (Some from)) (at_to : IsNumberOf s to target) where
    pub lend-refuses : (bad : Errno) → lend_refusal f.tables from name target ≡ Some bad → Becomes (net_of f.tables) f.tables u
        → Answered (answer (world_of f) (lending issuer name to (world_of f))) (Refused bad) f (record f { tables = u })
    lend-refuses bad is b = refused f s (lending issuer name to (world_of f)) u sound bad (lend-refused s issuer to name from target at_issuer at_to ∙ is) b

    pub lend-runs : lend_refusal f.tables from name target ≡ None → Becomes (moved_on (standing_in f.tables name (Some from)) (Some from) target (net_of f.tables)) f.tables u
        → Answered (answer (world_of f) (lending issuer name to (world_of f))) Done f (record f { tables = u })
    lend-runs none b = by target at_to none b
      where
        on : Option (IfOf HalfId)
        on = standing_in f.tables name (Some from)

        by : (target : Option Sid) → IsNumberOf s to target → lend_refusal f.tables from name target ≡ None → Becomes (moved_on on (Some from) target (net_of f.tables)) f.tables u
            → Answered (answer (world_of f) (lending issuer name to (world_of f))) Done f (record f { tables = u })
        by None dead none b = absurd (true≢false (none-applies ((is_none on, errno.NxIo) ∷ (is_lo0 on, errno.Perm) ∷ (true, errno.NxIo) ∷ (false, errno.Exist) ∷ []) none).1.1.0)
        by (Some sid) there none b =
            let m = moved-standing f s issuer to from sid at_issuer there u sound name b in
            ran f s (lending issuer name to (world_of f)) u sound (lend-refused s issuer to name from (Some sid) at_issuer there ∙ none) refl m.0 m.1 b.numbers

  -- -vnet
  module _ (from : Path) (to : Sid) (source : Option Sid) (allows : Bool) (at_issuer : IsNumberOf s issuer (Some to)) (at_from : IsNumberOf s from source)
      (same : may_have issuer (option_map (as_if (name_of f)) (standing_in f.tables name source)) ≡ may_have_half allows (standing_in f.tables name source)) where
    pub reclaim-refuses : (bad : Errno) → reclaim_refusal f.tables to source name allows ≡ Some bad → Becomes (net_of f.tables) f.tables u
        → Answered (answer (world_of f) (reclaiming issuer name from (world_of f))) (Refused bad) f (record f { tables = u })
    reclaim-refuses bad is b = refused f s (reclaiming issuer name from (world_of f)) u sound bad (reclaim-refused s issuer from name to source allows at_issuer at_from same ∙ is) b

    pub reclaim-runs : reclaim_refusal f.tables to source name allows ≡ None → Becomes (moved_on (standing_in f.tables name source) source (Some to) (net_of f.tables)) f.tables u
        → Answered (answer (world_of f) (reclaiming issuer name from (world_of f))) Done f (record f { tables = u })
    reclaim-runs none b = by source at_from none (reclaim-refused s issuer from name to source allows at_issuer at_from same ∙ none) b
      where
        by : (source : Option Sid) → IsNumberOf s from source → reclaim_refusal f.tables to source name allows ≡ None → first_refusal (reclaiming issuer name from (world_of f)).refusals ≡ None
            → Becomes (moved_on (standing_in f.tables name source) source (Some to) (net_of f.tables)) f.tables u
            → Answered (answer (world_of f) (reclaiming issuer name from (world_of f))) Done f (record f { tables = u })
        by None dead none all b = absurd (none_some errno.NxIo (sym none))
        by (Some sid) there none all b =
            let m = moved-standing f s from issuer sid to there at_issuer u sound name b in
            ran f s (reclaiming issuer name from (world_of f)) u sound all refl m.0 m.1 b.numbers

-- ---- by the tables

-- what `alive` tells of a path
pub number-told : (f : Fields) (s : Stands f) (p : Path) (o : Option Sid) → (IsSome o ↔ (is_alive p f.jails ≡ true)) → IfSome o (λ sid. sid.0 ≡ number_of p f.jails) → IsNumberOf s p o
number-told f s p None alive number = false_from_ne_true (is_alive p f.jails) (λ e. false≢true (alive.1 e))
number-told f s p (Some sid) alive number = (alive.0 refl, number)

pub number-living : (f : Fields) (s : Stands f) (p : Path) (o : Option Sid) → IsNumberOf s p o → IfSome o (λ sid. lives_in f.tables sid.0 ≡ true)
number-living f s p None dead = tt
number-living f s p (Some sid) is = s.living sid.0 ∙ ap (λ n. (at f.jails n).alive) is.1 ∙ number-lives s p is.0

-- ---- the home of a half

module _ (f : Fields) (s : Stands f) (name : IfName) (sid : Sid) (h : HalfId) (found : Some (OfHalf h) ≡ named name (held f.tables sid.0)) where
  its_pair : (pair : Pair) × (pair_at f.tables h.pair ≡ Some pair) × ((end_of h.side pair).at ≡ sid.0)
  its_pair = found-pair s sid.0 name h found

  home-same : (home : Sid) → home.0 ≡ (pair_of f.tables.pairs h.pair).home → home.0 ≡ its_pair.0.home
  home-same home is = is ∙ ap (λ o. (unwrap_or o (new_pair 0 0)).home) its_pair.1

  pub home-within : (home : Sid) → home.0 ≡ (pair_of f.tables.pairs h.pair).home → home.0 < length f.jails
  home-within home is = within f.jails home.0 (ap (λ n. (at f.jails n).alive) (home-same home is) ∙ home-alive s h.pair its_pair.0 its_pair.1)

  -- allows that it is had where that is its path or one below it
  pub home-allows : (source : Option Sid) → source ≡ Some sid → (path : Path) (home : Sid) (allows : Bool) → home.0 ≡ (pair_of f.tables.pairs h.pair).home → allows ≡ is_under path (path_at f.jails home.0)
      → may_have_half allows (standing_in f.tables name source) ≡ may_have path (option_map (as_if (name_of f)) (standing_in f.tables name source))
  unfolding name_of
  home-allows source at path home allows is under =
      subst (λ o. may_have_half allows (standing_in f.tables name o) ≡ may_have path (option_map (as_if (name_of f)) (standing_in f.tables name o))) (sym at)
      (ap (may_have_half allows) (sym found) ∙ under ∙ ap (λ n. is_under path (path_at f.jails n)) (home-same home is) ∙ ap (λ o. is_under path (home_by f.jails o)) (sym its_pair.1)
      ∙ ap (λ on. may_have path (option_map (as_if (name_of f)) on)) found)
