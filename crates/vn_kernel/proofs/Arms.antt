-- What a command does at a living path, once it is answered, is the machine's step.
use Rattle.std.proofs.Common.{◌≡◌, ℕ, ◌+◌, ◌≤◌, ◌++◌, ◌&&◌, true, false, not, length, IsTrue, [], ◌∷◌, Option, Some, None, refl, sym, ap, ◌∙◌, subst}
use Rattle.std.specs.Prelude.{◌||◌, nat_le, nat_lt}
use Rattle.std.specs.Option.{is_none, option_map}
use Rattle.std.proofs.lemmas.Bool.{and_parts, false≢true, leb-true, not-true}
use Rattle.vn_types.specs.declared.address.Mac.{Mac}
use Rattle.vn_types.specs.declared.errno.Errno.{Errno}
use Rattle.vn_types.specs.declared.errno.Errno.TheVariants as errno
use Rattle.vn_types.specs.declared.interface.IfName.{IfName}
use Rattle.vn_types.specs.declared.interface.IfName.TheVariants.{Lo0, Epair}
use Rattle.vn_types.specs.declared.interface.IfOf.TheVariants.{Lo0 as OfLo0}
use Rattle.vn_types.specs.Interfaces.{as_if}
use Rattle.vn_types.specs.Paths.{Path, is_host, is_path}
use Rattle.vn_types.specs.Refusals.{first_refusal}
use Rattle.vn_types.proofs.Options.{some_same}
use Rattle.vn_rules.specs.declared.outcome.Outcome.{Outcome}
use Rattle.vn_rules.specs.declared.outcome.Outcome.TheVariants.{Refused}
use Rattle.vn_rules.specs.LinkCommands.{half_alone}
use Rattle.vn_rules.specs.Named.{is_lo0}
use Rattle.vn_rules.specs.Resolution.{is_no_station}
use Rattle.vn_rules.specs.Rules.{Answer, Rule, answer, refused}
use Rattle.vn_jail.specs.Tree.{is_alive, number_of, path_at}
use Rattle.vn_cells.specs.declared.command.Command.{Command}
use Rattle.vn_cells.specs.declared.command.Command.TheVariants as command
use Rattle.vn_cells.specs.declared.world.World.{World}
use Rattle.vn_cells.specs.commands.Jails.{creation}
use Rattle.vn_cells.specs.commands.Moves.{lending, reclaiming}
use Rattle.vn_cells.specs.commands.Pairs.{destruction, mac_setting}
use Rattle.vn_cells.specs.commands.Removal.{removal}
use Rattle.vn_cells.specs.commands.Taken.{standing}
use Rattle.vn_cells.specs.machine.Bounds.{is_ifname}
use Rattle.vn_cells.specs.machine.Commands.{far_rule}
use Rattle.vn_cells.specs.machine.Events.{is_built_command, is_named_path, is_valid_command}
use Rattle.vn_cells.specs.machine.Reach.{MakesPair, Near, reach}
use Rattle.vn_cells.specs.machine.Step.{entered}
use Rattle.vn_cells.specs.world.World.{common_of}
use Rattle.vn_laws.proofs.edits.Paths.{append-not_host}
use Rattle.vn_kernel.specs.Fields.{Fields}
use Rattle.vn_kernel.specs.Naming.{name_of}
use Rattle.vn_kernel.specs.Stands.{Answered, AnsweredBy, HasStack, Ran, Stands}
use Rattle.vn_kernel.specs.Worlds.{world_of}
use Rattle.vn_kernel.proofs.Answering.{refused_is}
use Rattle.vn_kernel.proofs.Commands.{reached}
use Rattle.vn_kernel.proofs.Stacks.{own-lives}
use Rattle.vn_kernel.proofs.links.Ran.{lo0_addressed, lo0_destroyed}
use Rattle.vn_kernel.proofs.moving.Found.{standing-alive}
use Rattle.vn_kernel.proofs.moving.Refused.{number-lives}
use Rattle.vn_kernel.proofs.scenes.Named.{lo0-named}

-- ---- the jail that a command names

-- its path, which is relative to the issuer's
abbrev pub path_in : Command → Option Path
path_in (command.JailCreate path children_max) = Some path
path_in (command.JailRemove path) = Some path
path_in (command.Vnet name path) = Some path
path_in (command.VnetBack name path) = Some path
path_in _ = None

module _ (issuer path : Path) where
  named : (c : Command) → path_in c ≡ Some path → IsTrue (is_valid_command issuer c) → is_named_path issuer path ≡ true
  unfolding is_valid_command
  named (command.JailCreate own limit) is valid = subst (λ p. is_named_path issuer p ≡ true) (some_same own path is) (and_parts (is_named_path issuer own) (nat_lt limit 10000) valid).0
  named (command.JailRemove own) is valid = subst (λ p. is_named_path issuer p ≡ true) (some_same own path is) valid
  named (command.Vnet name own) is valid = subst (λ p. is_named_path issuer p ≡ true) (some_same own path is) (and_parts (is_ifname name) (is_named_path issuer own) valid).1
  named (command.VnetBack name own) is valid = subst (λ p. is_named_path issuer p ≡ true) (some_same own path is) (and_parts (is_ifname name) (is_named_path issuer own) valid).1
  named _ is valid = cc

  module _ (c : Command) (is : path_in c ≡ Some path) (valid : IsTrue (is_valid_command issuer c)) where
    parts : ((is_path path && not (is_host path)) ≡ true) × (nat_le (length issuer + length path) 8 ≡ true)
    unfolding is_named_path
    parts = and_parts (is_path path && not (is_host path)) (nat_le (length issuer + length path) 8) (named c is valid)

    -- the path is joined to the issuer's
    pub joins : length issuer + length path ≤ 8
    joins = leb-true (length issuer + length path) 8 parts.1

    -- and then it is not host's
    pub names_jail : (jail : Path) → jail ≡ issuer ++ path → is_host jail ≡ false
    names_jail jail at = ap is_host at ∙ append-not_host issuer path (not-true (is_host path) (and_parts (is_path path) (not (is_host path)) parts.0).1)

-- ---- commands

-- lo0 stands in each stack that lives
lo0-stands : {f : Fields} (s : Stands f) (p : Path) → is_alive p f.jails ≡ true → standing (world_of f) p Lo0 ≡ Some OfLo0
lo0-stands {f} s p alive = standing-alive s p Lo0 alive
    ∙ ap (option_map (as_if (name_of f))) (lo0-named s (number_of p f.jails) (s.living (number_of p f.jails) ∙ number-lives s p alive))

module _ {f g : Fields} {given : Outcome} {sid : ℕ} (h : HasStack sid f) (issuer : Path) (own : path_at f.jails sid ≡ issuer) (c : Command) where
  -- one that reaches beyond its stack
  beyond : (d : Command) → c ≡ d → (reach issuer d ≡ Near → ⊥) → AnsweredBy (λ w. far_rule (common_of w) issuer (reach issuer d) w) given f g → Ran issuer c given f g
  beyond d is far a = subst (λ c. Ran issuer c given f g) (sym is) (reached f g issuer d given h.stands (own-lives h issuer own) far a)

  -- one that is refused near its stack, as by a rule over the world
  near : (e : Errno) (rule : Rule World) → first_refusal rule.refusals ≡ Some e → Ran issuer c (Refused e) f f → Answered (answer (world_of f) rule) given f g → Ran issuer c given f g
  near e rule is r a = record {
    entered = λ lane. (λ i. entered f.clock lane issuer c (record { left = (a.leaves.world ∙ ap (λ (x : Answer World). x.left) same) i; outcome = (a.outcome ∙ ap (λ (x : Answer World). x.outcome) same) i })) ∙ r.entered lane;
    stands = a.leaves.stands;
    grows = a.leaves.grows;
    read = a.leaves.read;
  }
    where
      same : answer (world_of f) rule ≡ refused e (world_of f)
      same = refused_is (world_of f) rule e is

  module _ (path jail : Path) (at : jail ≡ issuer ++ path) where
    pub created : (limit : ℕ) → c ≡ command.JailCreate path limit → AnsweredBy (λ w. creation (common_of w) jail limit w) given f g → Ran issuer c given f g
    unfolding reach far_rule
    created limit is a = beyond (command.JailCreate path limit) is (λ near. cc) (subst (λ j. AnsweredBy (λ w. creation (common_of w) j limit w) given f g) at a)

    pub removed : c ≡ command.JailRemove path → AnsweredBy (λ w. removal (common_of w) jail w) given f g → Ran issuer c given f g
    unfolding reach far_rule
    removed is a = beyond (command.JailRemove path) is (λ near. cc) (subst (λ j. AnsweredBy (λ w. removal (common_of w) j w) given f g) at a)

  pub any_made : c ≡ command.EpairAny → AnsweredBy (λ w. far_rule (common_of w) (path_at f.jails sid) (MakesPair None) w) given f g → Ran issuer c given f g
  unfolding reach
  any_made is a = beyond command.EpairAny is (λ near. cc) (subst (λ p. AnsweredBy (λ w. far_rule (common_of w) p (MakesPair None) w) given f g) own a)

  pub unit_made : (unit : ℕ) → c ≡ command.EpairCreate unit → AnsweredBy (λ w. far_rule (common_of w) (path_at f.jails sid) (MakesPair (Some unit)) w) given f g → Ran issuer c given f g
  unfolding reach
  unit_made unit is a = beyond (command.EpairCreate unit) is (λ near. cc) (subst (λ p. AnsweredBy (λ w. far_rule (common_of w) p (MakesPair (Some unit)) w) given f g) own a)

  pub destroyed : (name : IfName) → c ≡ command.Destroy name → AnsweredBy (destruction (path_at f.jails sid) name) given f g → Ran issuer c given f g
  unfolding reach far_rule
  destroyed Lo0 is a = near errno.Inval (destruction issuer Lo0 (world_of f)) (ap (λ on. first_refusal (half_alone on)) (lo0-stands h.stands issuer (own-lives h issuer own)))
      (subst (λ c. Ran issuer c (Refused errno.Inval) f f) (sym is) (lo0_destroyed h.stands issuer (own-lives h issuer own)))
      (subst (λ p. AnsweredBy (destruction p Lo0) given f g) own a)
  destroyed (Epair unit side) is a = beyond (command.Destroy (Epair unit side)) is (λ near. cc) (subst (λ p. AnsweredBy (destruction p (Epair unit side)) given f g) own a)

  pub addressed : (name : IfName) (mac : Mac) → c ≡ command.Ether name mac → AnsweredBy (mac_setting (path_at f.jails sid) name mac) given f g → Ran issuer c given f g
  unfolding reach far_rule
  addressed Lo0 mac is a = near errno.Inval (mac_setting issuer Lo0 mac (world_of f))
      (ap (λ on. first_refusal ((is_none on, errno.NxIo) ∷ (is_lo0 on || is_no_station mac, errno.Inval) ∷ [])) (lo0-stands h.stands issuer (own-lives h issuer own)))
      (subst (λ c. Ran issuer c (Refused errno.Inval) f f) (sym is) (lo0_addressed h.stands issuer (own-lives h issuer own) mac))
      (subst (λ p. AnsweredBy (mac_setting p Lo0 mac) given f g) own a)
  addressed (Epair unit side) mac is a = beyond (command.Ether (Epair unit side) mac) is (λ near. cc) (subst (λ p. AnsweredBy (mac_setting p (Epair unit side) mac) given f g) own a)

  module _ (path jail : Path) (at : jail ≡ issuer ++ path) where
    lent-here : (name : IfName) → AnsweredBy (lending (path_at f.jails sid) name jail) given f g → AnsweredBy (lending issuer name (issuer ++ path)) given f g
    lent-here name a = subst (λ (p : Path × Path). AnsweredBy (lending p.0 name p.1) given f g) (λ i. (own i, at i)) a

    reclaimed-here : (name : IfName) → AnsweredBy (reclaiming (path_at f.jails sid) name jail) given f g → AnsweredBy (reclaiming issuer name (issuer ++ path)) given f g
    reclaimed-here name a = subst (λ (p : Path × Path). AnsweredBy (reclaiming p.0 name p.1) given f g) (λ i. (own i, at i)) a

    pub lent : (name : IfName) → c ≡ command.Vnet name path → AnsweredBy (lending (path_at f.jails sid) name jail) given f g → Ran issuer c given f g
    unfolding reach far_rule
    lent Lo0 is a = beyond (command.Vnet Lo0 path) is (λ near. cc) (lent-here Lo0 a)
    lent (Epair unit side) is a = beyond (command.Vnet (Epair unit side) path) is (λ near. cc) (lent-here (Epair unit side) a)

    pub reclaimed : (name : IfName) → c ≡ command.VnetBack name path → AnsweredBy (reclaiming (path_at f.jails sid) name jail) given f g → Ran issuer c given f g
    unfolding reach far_rule
    reclaimed Lo0 is a = beyond (command.VnetBack Lo0 path) is (λ near. cc) (reclaimed-here Lo0 a)
    reclaimed (Epair unit side) is a = beyond (command.VnetBack (Epair unit side) path) is (λ near. cc) (reclaimed-here (Epair unit side) a)

  -- one near its stack, by the stack's path
  at-issuer : (d : Command) → c ≡ d → Ran (path_at f.jails sid) d given f g → Ran issuer c given f g
  at-issuer d is r = subst (λ (r : Path × Command). Ran r.0 r.1 given f g) (λ i. (own i, sym is i)) r

  pub raised : (name : IfName) → c ≡ command.Up name → Ran (path_at f.jails sid) (command.Up name) given f g → Ran issuer c given f g
  raised name is r = at-issuer (command.Up name) is r

  pub lowered : (name : IfName) → c ≡ command.Down name → Ran (path_at f.jails sid) (command.Down name) given f g → Ran issuer c given f g
  lowered name is r = at-issuer (command.Down name) is r

-- ---- all of them

-- a command that the program runs is one of these
pub only_built : (c : Command) → ((path : Path) (limit : ℕ) → c ≡ command.JailCreate path limit → ⊥) → ((path : Path) → c ≡ command.JailRemove path → ⊥)
    → (c ≡ command.EpairAny → ⊥) → ((unit : ℕ) → c ≡ command.EpairCreate unit → ⊥) → ((name : IfName) → c ≡ command.Destroy name → ⊥)
    → ((name : IfName) (path : Path) → c ≡ command.Vnet name path → ⊥) → ((name : IfName) (path : Path) → c ≡ command.VnetBack name path → ⊥)
    → ((name : IfName) → c ≡ command.Up name → ⊥) → ((name : IfName) → c ≡ command.Down name → ⊥)
    → ((name : IfName) (mac : Mac) → c ≡ command.Ether name mac → ⊥) → is_built_command c ≡ true → ⊥
unfolding is_built_command
only_built (command.JailCreate path limit) creates _ _ _ _ _ _ _ _ _ built = creates path limit refl
only_built (command.JailRemove path) _ removes _ _ _ _ _ _ _ _ built = removes path refl
only_built command.EpairAny _ _ any _ _ _ _ _ _ _ built = any refl
only_built (command.EpairCreate unit) _ _ _ makes _ _ _ _ _ _ built = makes unit refl
only_built (command.Destroy name) _ _ _ _ destroys _ _ _ _ _ built = destroys name refl
only_built (command.Vnet name path) _ _ _ _ _ lends _ _ _ _ built = lends name path refl
only_built (command.VnetBack name path) _ _ _ _ _ _ reclaims _ _ _ built = reclaims name path refl
only_built (command.Up name) _ _ _ _ _ _ _ up _ _ built = up name refl
only_built (command.Down name) _ _ _ _ _ _ _ _ down _ built = down name refl
only_built (command.Ether name mac) _ _ _ _ _ _ _ _ _ sets built = sets name mac refl
only_built _ _ _ _ _ _ _ _ _ _ _ built = false≢true built
