-- sysctl(8) reads and sets a variable, and arp(8) removes the entries of an address.
use Rattle.std.specs.Prelude.{ℕ, List}
use Rattle.std.specs.Fmt.{decimal}
use Rattle.vn_types.specs.declared.address.Ip4.{Ip4}
use Rattle.vn_rules.specs.declared.outcome.Outcome.TheVariants.{Value}
use Rattle.vn_rules.specs.declared.parts.PartsOf.{PartsOf}
use Rattle.vn_rules.specs.Resolution.{after_arp_delete, arp_delete_refusals}
use Rattle.vn_rules.specs.Rules.{Rule, done}
use Rattle.vn_rules.specs.Variables.{declarations, get_refusals, set_refusals, number_in, with_value}

module _ {N : Type 0} where
  -- the value of a variable is told
  unfoldable pub get_rule : List ℕ → PartsOf N → Rule (PartsOf N)
  get_rule name p = record {
    refusals = get_refusals name p.variables;
    otherwise = record { left = p; outcome = Value (decimal (number_in name p.variables)) };
  }

  -- a variable has the value
  unfoldable pub set_rule : List ℕ → ℕ → PartsOf N → Rule (PartsOf N)
  set_rule name value p = record {
    refusals = set_refusals name value declarations;
    otherwise = done (record p { variables = with_value name value p.variables });
  }

  -- nothing is known of an address any more
  unfoldable pub arp_delete_rule : Ip4 → PartsOf N → Rule (PartsOf N)
  arp_delete_rule ip p = record {
    refusals = arp_delete_refusals ip p.arp;
    otherwise = done (after_arp_delete ip p);
  }
