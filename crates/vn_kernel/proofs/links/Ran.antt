-- An interface that goes up or down over the tables does so in the world; and lo0 is refused what only halves have.
use Rattle.std.proofs.Common.{◌≡◌, ℕ, Bool, true, false, Option, Some, None, refl, sym, ap, ◌∙◌}
use Rattle.std.specs.Option.{option_map}
use Rattle.vn_types.specs.declared.address.Mac.{Mac}
use Rattle.vn_types.specs.declared.errno.Errno.TheVariants as errno
use Rattle.vn_types.specs.declared.half.Half.{Half}
use Rattle.vn_types.specs.declared.interface.HalfId.{HalfId}
use Rattle.vn_types.specs.declared.interface.IfName.{IfName}
use Rattle.vn_types.specs.declared.interface.IfName.TheVariants as ifname
use Rattle.vn_types.specs.declared.interface.IfOf.{IfOf}
use Rattle.vn_types.specs.declared.interface.IfOf.TheVariants.{Lo0, Half as OfHalf}
use Rattle.vn_types.specs.Interfaces.{as_if, half_id_eq}
use Rattle.vn_types.specs.Paths.{Path}
use Rattle.vn_rules.specs.declared.outcome.Outcome.TheVariants.{Done, Refused}
use Rattle.vn_rules.specs.LinkCommands.{down_rule, half_alone, half_only, set_up}
use Rattle.vn_rules.specs.Rules.{Rule, done}
use Rattle.vn_rules.specs.Scenes.{SceneOf, renamed_scene}
use Rattle.vn_rules.proofs.LinkLaws.{set_up-renamed}
use Rattle.vn_packets.specs.AddressLinks.{come_up_on, up_rule}
use Rattle.vn_packets.specs.Renamed.{as_rule}
use Rattle.vn_packets.proofs.AddressLinkLaws.{up_rule-renamed}
use Rattle.vn_ifnet.specs.Stacks.{named}
use Rattle.vn_jail.specs.Tree.{is_alive, number_of}
use Rattle.vn_vmove.specs.declared.tables.Tables.{Tables}
use Rattle.vn_vmove.specs.Parts.{held, pair_at}
use Rattle.vn_vmove.specs.Sound.{stands_at}
use Rattle.vn_vmove.proofs.Names.{found-stands}
use Rattle.vn_cells.specs.declared.command.Command.{Command}
use Rattle.vn_cells.specs.declared.command.Command.TheVariants.{Destroy, Down, Ether, Up}
use Rattle.vn_cells.specs.machine.Commands.{named_in, near_rule}
use Rattle.vn_cells.specs.machine.Reach.{Near, reach}
use Rattle.vn_cells.specs.world.Names.{half_eq, half_name}
use Rattle.vn_ipcore.specs.Scenes.{Replaces}
use Rattle.vn_ipcore.proofs.Back.{replaces_same}
use Rattle.vn_kernel.specs.Fields.{Fields}
use Rattle.vn_kernel.specs.Naming.{name_of}
use Rattle.vn_kernel.specs.Stands.{Ran, Stands}
use Rattle.vn_kernel.proofs.moving.Faithful.{name-kept}
use Rattle.vn_kernel.proofs.moving.Refused.{number-lives}
use Rattle.vn_kernel.proofs.scenes.Named.{lo0-named, named-here}
use Rattle.vn_kernel.proofs.scenes.Near.{near_done, near_refused}
use Rattle.vn_kernel.proofs.scenes.Seen.{common_in, named_scene, scene_at}

-- ---- rules under other names of halves

alone-renamed : {N M : Type 0} (r : N → M) (on : Option (IfOf N)) → half_alone (option_map (as_if r) on) ≡ half_alone on
alone-renamed r None = refl
alone-renamed r (Some Lo0) = refl
alone-renamed r (Some (OfHalf h)) = refl

half_only-renamed : {N M : Type 0} (r : N → M) (on : Option (IfOf N)) (s : SceneOf N) → half_only (option_map (as_if r) on) (renamed_scene r s) ≡ as_rule r (half_only on s)
half_only-renamed r on s i = record { refusals = alone-renamed r on i; otherwise = done (renamed_scene r s) }

down_rule-renamed : {N M : Type 0} (r : N → M) (at_n : N → N → Bool) (at_m : M → M → Bool) → ((a b : N) → at_m (r a) (r b) ≡ at_n a b) → (on : Option (IfOf N)) (s : SceneOf N)
    → down_rule at_m (option_map (as_if r) on) (renamed_scene r s) ≡ as_rule r (down_rule at_n on s)
down_rule-renamed r at_n at_m faithful on s i = record { refusals = alone-renamed r on i; otherwise = done (set_up-renamed r at_n at_m faithful false on s i) }

-- ---- an interface by its name

module _ {f : Fields} (s : Stands f) (issuer : Path) (alive : is_alive issuer f.jails ≡ true) (number : ℕ) (at : number ≡ number_of issuer f.jails) where
  -- what `up` and `down` make of what stands under the name
  abbrev up_of : Option (IfOf HalfId) → Rule (SceneOf HalfId)
  up_of on = up_rule half_id_eq on (scene_at f number)

  abbrev down_of : Option (IfOf HalfId) → Rule (SceneOf HalfId)
  down_of on = down_rule half_id_eq on (scene_at f number)

  abbrev scene : SceneOf Half
  scene = named_scene f (scene_at f number)

  module _ (name : IfName) (on : Option (IfOf HalfId)) (is : on ≡ named name (held f.tables number)) where
    named-is : named_in half_name name scene ≡ option_map (as_if (name_of f)) on
    named-is = named-here s number name ∙ ap (option_map (as_if (name_of f))) (sym is)

    up-same : near_rule half_eq half_name (common_in f) (Up name) scene ≡ as_rule (name_of f) (up_of on)
    unfolding near_rule
    up-same = ap (λ o. up_rule half_eq o scene) named-is ∙ up_rule-renamed (name_of f) half_id_eq half_eq (name-kept s) on (scene_at f number)

    down-same : near_rule half_eq half_name (common_in f) (Down name) scene ≡ as_rule (name_of f) (down_of on)
    unfolding near_rule
    down-same = ap (λ o. down_rule half_eq o scene) named-is ∙ down_rule-renamed (name_of f) half_id_eq half_eq (name-kept s) on (scene_at f number)

  module _ (name : IfName) where
    -- ---- up

    pub up-missing : None ≡ named name (held f.tables number) → Ran issuer (Up name) (Refused errno.NxIo) f f
    unfolding reach up_rule
    up-missing is = near_refused s issuer alive number at (Up name) (up_of None) (up-same name None is) refl errno.NxIo refl

    pub up-lo0 : Some Lo0 ≡ named name (held f.tables number) → Ran issuer (Up name) Done f f
    unfolding reach up_rule come_up_on set_up
    up-lo0 is = near_done s issuer alive number at (Up name) (up_of (Some Lo0)) (up-same name (Some Lo0) is) refl f.tables refl (replaces_same s.sound number)

    pub down-missing : None ≡ named name (held f.tables number) → Ran issuer (Down name) (Refused errno.NxIo) f f
    unfolding reach
    down-missing is = near_refused s issuer alive number at (Down name) (down_of None) (down-same name None is) refl errno.NxIo refl

    pub down-lo0 : Some Lo0 ≡ named name (held f.tables number) → Ran issuer (Down name) (Refused errno.Inval) f f
    unfolding reach
    down-lo0 is = near_refused s issuer alive number at (Down name) (down_of (Some Lo0)) (down-same name (Some Lo0) is) refl errno.Inval refl

    module _ (h : HalfId) (is : Some (OfHalf h) ≡ named name (held f.tables number)) where
      -- what is found stands there
      pub stands-there : stands_at number h.side (pair_at f.tables h.pair) ≡ true
      stands-there = (found-stands s.sound number name h (sym is)).0

      pub up-done : (u : Tables) → Replaces number (up_of (Some (OfHalf h))).otherwise.left f.tables u → Ran issuer (Up name) Done f (record f { tables = u })
      unfolding reach up_rule
      up-done u replaces = near_done s issuer alive number at (Up name) (up_of (Some (OfHalf h))) (up-same name (Some (OfHalf h)) is) refl u refl replaces

      pub down-done : (u : Tables) → Replaces number (down_of (Some (OfHalf h))).otherwise.left f.tables u → Ran issuer (Down name) Done f (record f { tables = u })
      unfolding reach
      down-done u replaces = near_done s issuer alive number at (Down name) (down_of (Some (OfHalf h))) (down-same name (Some (OfHalf h)) is) refl u refl replaces

-- ---- lo0

module _ {f : Fields} (s : Stands f) (issuer : Path) (alive : is_alive issuer f.jails ≡ true) where
  -- lo0 is refused what its rule gives to halves alone
  lo0_refused : (command : Command)
      → ((scene : SceneOf Half) → near_rule half_eq half_name (common_in f) command scene ≡ half_only (named_in half_name ifname.Lo0 scene) scene)
      → reach issuer command ≡ Near → Ran issuer command (Refused errno.Inval) f f
  lo0_refused command only near =
      near_refused s issuer alive number refl command (half_only (Some Lo0) (scene_at f number))
      (only (named_scene f (scene_at f number))
      ∙ ap (λ o. half_only o (named_scene f (scene_at f number)))
      (named-here s number ifname.Lo0 ∙ ap (option_map (as_if (name_of f))) (lo0-named s number (s.living number ∙ number-lives s issuer alive)))
      ∙ half_only-renamed (name_of f) (Some Lo0) (scene_at f number))
      near errno.Inval refl
    where
      number : ℕ
      number = number_of issuer f.jails

  -- it has no pair that could be destroyed
  pub lo0_destroyed : Ran issuer (Destroy ifname.Lo0) (Refused errno.Inval) f f
  unfolding near_rule reach
  lo0_destroyed = lo0_refused (Destroy ifname.Lo0) (λ scene. refl) refl

  -- and no hardware address
  pub lo0_addressed : (mac : Mac) → Ran issuer (Ether ifname.Lo0 mac) (Refused errno.Inval) f f
  unfolding near_rule reach
  lo0_addressed mac = lo0_refused (Ether ifname.Lo0 mac) (λ scene. refl) refl
