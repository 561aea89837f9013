-- A pair that is destroyed by its number: the world's answer.
use Rattle.std.proofs.Common.{◌≡◌, ◌<◌, ℕ, List, length, Option, Some, None, IsSome, unwrap_or, refl, sym, ap, ◌∙◌, subst, arith}
use Rattle.std.specs.BTreeMap.{is_at}
use Rattle.std.specs.Map.{remove_entry}
use Rattle.std.specs.Option.{option_map}
use Rattle.vn_types.specs.declared.errno.Errno.TheVariants as errno
use Rattle.vn_types.specs.declared.interface.HalfId.{HalfId}
use Rattle.vn_types.specs.declared.interface.IfName.{IfName}
use Rattle.vn_types.specs.declared.interface.IfOf.{IfOf}
use Rattle.vn_types.specs.declared.interface.IfOf.TheVariants.{Lo0, Half as OfHalf}
use Rattle.vn_types.specs.declared.interface.Sid.{Sid}
use Rattle.vn_types.specs.Interfaces.{as_if}
use Rattle.vn_types.specs.Paths.{Path, Key, key_cmp}
use Rattle.vn_types.specs.Refusals.{first_refusal}
use Rattle.vn_rules.specs.declared.outcome.Outcome.TheVariants.{Done, Refused}
use Rattle.vn_rules.specs.LinkCommands.{half_alone}
use Rattle.vn_rules.specs.Rules.{answer}
use Rattle.vn_epair.specs.Halves.{Pair}
use Rattle.vn_epair.specs.Pairs.{new_pair, pair_of}
use Rattle.vn_ifnet.specs.Stacks.{named}
use Rattle.vn_jail.specs.Tree.{path_at}
use Rattle.vn_jail.proofs.Numbers.{within}
use Rattle.vn_vmove.specs.declared.tables.Tables.{Tables}
use Rattle.vn_vmove.specs.Moves.{unmade}
use Rattle.vn_vmove.specs.Nets.{Becomes, net_of}
use Rattle.vn_vmove.specs.Parts.{held, pair_at}
use Rattle.vn_vmove.specs.Sound.{IsSound}
use Rattle.vn_cells.specs.commands.Pairs.{destroyed_by, destroyed_pair, destruction}
use Rattle.vn_cells.specs.commands.Taken.{standing}
use Rattle.vn_cells.specs.world.Names.{key_of}
use Rattle.vn_kernel.specs.Fields.{Fields}
use Rattle.vn_kernel.specs.Naming.{key_by, name_of}
use Rattle.vn_kernel.specs.Removal.{EndsPair}
use Rattle.vn_kernel.specs.Stands.{Answered, Leaves, Stands}
use Rattle.vn_kernel.specs.Worlds.{world_of}
use Rattle.vn_kernel.proofs.Answering.{answered-done, answered-refused}
use Rattle.vn_kernel.proofs.moving.Faithful.{name-is}
use Rattle.vn_kernel.proofs.moving.Found.{found-exists, home-alive}
use Rattle.vn_kernel.proofs.moving.Refused.{IsNumberOf, standing-same}
use Rattle.vn_kernel.proofs.moving.Unmade.{pairs_after, removed-key, unmade_stands, unmade_world, without_key}

-- ---- a pair

module _ (f : Fields) (s : Stands f) (n : ℕ) (exists : IsSome (pair_at f.tables n)) where
  -- what has the number
  pub its_pair : pair_at f.tables n ≡ Some (pair_of f.tables.pairs n)
  its_pair = by (pair_at f.tables n) exists
    where
      by : (o : Option Pair) → IsSome o → o ≡ Some (unwrap_or o (new_pair 0 0))
      by None some = cc
      by (Some pair) some = refl

  -- its home has a number
  pub home-known : (home : ℕ) → home ≡ (pair_of f.tables.pairs n).home → home < length f.jails
  home-known home is = subst (λ h. h < length f.jails) (sym is) (within f.jails (pair_of f.tables.pairs n).home (home-alive s n (pair_of f.tables.pairs n) its_pair))

  pub ended : (u : Tables) → Becomes (unmade n (pair_at f.tables n) (net_of f.tables)) f.tables u → IsSound u
      → (home : ℕ) (path : Path) (unit : ℕ) → home ≡ (pair_of f.tables.pairs n).home → path ≡ path_at f.jails home → unit ≡ (pair_of f.tables.pairs n).unit
      → (units : List (Key × ℕ)) → units ≡ remove_entry (is_at (key_cmp (path, unit))) f.units
      → EndsPair n f (record f { tables = u; units = units })
  ended u b sound home path unit at is unit_is units removed =
      subst (λ us. EndsPair n f (record f { tables = u; units = us })) (sym left)
      (record {
        leaves = record {
          world = unmade_world f s n (pair_of f.tables.pairs n) its_pair u b sound;
          stands = unmade_stands f s n (pair_of f.tables.pairs n) its_pair u b sound;
          grows = record { jails = omega arith; pairs = omega (arith, b.numbers) };
          read = refl;
        };
        pairs = pairs_after f s n (pair_of f.tables.pairs n) its_pair u b sound;
        units = refl;
        numbers = b.numbers;
        others = refl;
      })
    where
      key : Key
      key = key_by f.jails (pair_of f.tables.pairs n)

      same : ◌≡◌ {A = Key} (path, unit) (key_by f.jails (pair_of f.tables.pairs n))
      same = λ i. ((is ∙ ap (path_at f.jails) at) i, unit_is i)

      left : units ≡ without_key (key_by f.jails (pair_of f.tables.pairs n)) f.units
      left = removed ∙ ap (λ k. remove_entry (is_at (key_cmp k)) f.units) same ∙ removed-key (key_by f.jails (pair_of f.tables.pairs n)) f.units s.units_rise

-- ---- destroy

module _ (f : Fields) (s : Stands f) (issuer : Path) (name : IfName) (sid : Sid) (at : IsNumberOf s issuer (Some sid)) where
  -- what is refused, by what stands under the name
  refusal : (on : Option (IfOf HalfId)) → on ≡ named name (held f.tables sid.0)
      → first_refusal (half_alone (option_map (as_if (name_of f)) on)) ≡ first_refusal (destruction issuer name (world_of f)).refusals
  refusal on is = ap (λ o. first_refusal (half_alone (option_map (as_if (name_of f)) o))) is ∙ ap (λ o. first_refusal (half_alone o)) (sym (standing-same s issuer (Some sid) name at))

  pub none-refused : None ≡ named name (held f.tables sid.0) → Answered (answer (world_of f) (destruction issuer name (world_of f))) (Refused errno.NxIo) f f
  none-refused is = answered-refused f (destruction issuer name (world_of f)) s errno.NxIo (sym (refusal None is))

  pub lo0-refused : Some Lo0 ≡ named name (held f.tables sid.0) → Answered (answer (world_of f) (destruction issuer name (world_of f))) (Refused errno.Inval) f f
  lo0-refused is = answered-refused f (destruction issuer name (world_of f)) s errno.Inval (sym (refusal (Some Lo0) is))

  module _ (h : HalfId) (is : Some (OfHalf h) ≡ named name (held f.tables sid.0)) where
    -- a half that stands there ends with its pair
    pub half-ended : (g : Fields) → Leaves (destroyed_pair (key_by f.jails (pair_of f.tables.pairs h.pair)) (world_of f)) f g
        → Answered (answer (world_of f) (destruction issuer name (world_of f))) Done f g
    unfolding destroyed_by
    half-ended g leaves = answered-done f (destruction issuer name (world_of f)) g Done (sym (refusal (Some (OfHalf h)) is)) refl (subst (λ w. Leaves w f g) (sym destroyed) leaves)
      where
        key_is : key_of (name_of f h) ≡ key_by f.jails (pair_of f.tables.pairs h.pair)
        key_is = ap key_of (name-is f h.pair (pair_of f.tables.pairs h.pair) (its_pair f s h.pair (found-exists s sid.0 name h is)) h.side)

        destroyed : destroyed_by (standing (world_of f) issuer name) (world_of f) ≡ destroyed_pair (key_by f.jails (pair_of f.tables.pairs h.pair)) (world_of f)
        destroyed = ap (λ o. destroyed_by o (world_of f)) (standing-same s issuer (Some sid) name at ∙ ap (option_map (as_if (name_of f))) (sym is)) ∙ ap (λ k. destroyed_pair k (world_of f)) key_is
