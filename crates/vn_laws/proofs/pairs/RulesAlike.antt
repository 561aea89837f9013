-- The commands on pairs say the same in two worlds that are alike in a set with their deciders.
use Rattle.std.proofs.Common.{◌≡◌, ℕ, true, ◌||◌, not, nat_lt, [], ◌∷◌, Option, Some, None, refl, ap, ◌∙◌, subst}
use Rattle.std.specs.Option.{is_none}
use Rattle.vn_types.specs.declared.address.Mac.{Mac}
use Rattle.vn_types.specs.declared.errno.Errno.TheVariants as errno
use Rattle.vn_types.specs.declared.interface.IfName.TheVariants.{Epair}
use Rattle.vn_types.specs.declared.interface.Side.{Side}
use Rattle.vn_rules.specs.LinkCommands.{half_alone}
use Rattle.vn_rules.specs.Named.{is_lo0}
use Rattle.vn_cells.specs.declared.cell.Cells.{Cells}
use Rattle.vn_cells.specs.declared.world.World.{World}
use Rattle.vn_cells.specs.world.Names.{Path, If}
use Rattle.vn_rules.specs.Resolution.{is_no_station}
use Rattle.vn_cells.specs.commands.Pairs.{told_lowest, destroyed_by, with_mac_on, any_making, making, destruction, mac_setting}
use Rattle.vn_cells.specs.commands.Taken.{standing, lowest_free, units}
use Rattle.vn_cells.specs.keeping.Sound.{IsSound}
use Rattle.vn_cells.specs.sets.Sets.{in_stacks}
use Rattle.vn_laws.specs.Relations.{Alike, Belongs}
use Rattle.vn_laws.proofs.edits.Twins.{twins-sound}
use Rattle.vn_laws.proofs.pairs.Alike.{twins-made_pair, twins-destroyed_by, twins-with_mac_on}
use Rattle.vn_laws.proofs.pairs.NamedAlike.{PairInside, owns_standing, standing_alike, unit_alike, lowest_in}
use Rattle.vn_laws.proofs.rule.Alike.{AlikeRules}

module _ {set : Cells} {v w : World} (a : Alike set v w) (sv : IsSound v) (sw : IsSound w) (issuer : Path) where
  told_alike : (o : Option ℕ) → (told_lowest issuer o v).outcome ≡ (told_lowest issuer o w).outcome
  unfolding told_lowest
  told_alike None = refl
  told_alike (Some unit) = refl

  made_alike : (o : Option ℕ) → Alike set (told_lowest issuer o v).left (told_lowest issuer o w).left
  unfolding told_lowest
  made_alike None = a
  made_alike (Some unit) = (twins-made_pair (twins-sound a sv sw) (issuer, unit)).alike

  pub any_making_alike : in_stacks set issuer ≡ true → AlikeRules set (any_making issuer v) (any_making issuer w)
  any_making_alike inside = record {
    refusals = refl;
    outcome = ap (λ (o : Option ℕ). (told_lowest issuer o v).outcome) (lowest_in a issuer inside) ∙ told_alike (lowest_free w issuer);
    left = λ none. subst (λ o. Alike set (told_lowest issuer (lowest_free v issuer) v).left (told_lowest issuer o w).left)
        (lowest_in a issuer inside) (made_alike (lowest_free v issuer));
  }

  module _ (unit : ℕ) (all : PairInside set issuer unit) where
    pub making_alike : AlikeRules set (making issuer unit v) (making issuer unit w)
    making_alike = record {
      refusals = ap (λ b. (not (nat_lt unit units), errno.Inval) ∷ (not b, errno.Exist) ∷ []) (unit_alike a sv sw issuer unit all);
      outcome = refl;
      left = λ none. (twins-made_pair (twins-sound a sv sw) (issuer, unit)).alike;
    }

    module _ (side : Side) where
      same : standing v issuer (Epair unit side) ≡ standing w issuer (Epair unit side)
      same = standing_alike a sv sw issuer unit all side

      pub destruction_alike : Belongs set v → AlikeRules set (destruction issuer (Epair unit side) v) (destruction issuer (Epair unit side) w)
      destruction_alike b = record {
        refusals = ap half_alone same;
        outcome = refl;
        left = λ none. subst (λ on. Alike set (destroyed_by (standing v issuer (Epair unit side)) v) (destroyed_by on w)) same
            (twins-destroyed_by (twins-sound a sv sw) (standing v issuer (Epair unit side)) (owns_standing sv b issuer unit side all)).alike;
      }

      pub mac_setting_alike : (mac : Mac)
          → AlikeRules set (mac_setting issuer (Epair unit side) mac v) (mac_setting issuer (Epair unit side) mac w)
      mac_setting_alike mac = record {
        refusals = ap (λ (on : Option If). (is_none on, errno.NxIo) ∷ (is_lo0 on || is_no_station mac, errno.Inval) ∷ []) same;
        outcome = refl;
        left = λ none. subst (λ on. Alike set (with_mac_on (standing v issuer (Epair unit side)) mac v) (with_mac_on on mac w)) same
            (twins-with_mac_on (twins-sound a sv sw) (standing v issuer (Epair unit side)) mac).alike;
      }
