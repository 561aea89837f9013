-- route(8) on gateway routes: `add` and `delete`.
use Rattle.vn_types.specs.declared.address.Ip4.{Ip4}
use Rattle.vn_types.specs.declared.address.Prefix.{Prefix}
use Rattle.vn_rules.specs.declared.parts.PartsOf.{PartsOf}
use Rattle.vn_rules.specs.Routes.{gateway_refusals, after_gateway, delete_refusals, after_delete}
use Rattle.vn_rules.specs.Rules.{Rule, done}

module _ {N : Type 0} where
  -- a gateway route comes
  unfoldable pub add_rule : Prefix → Ip4 → PartsOf N → Rule (PartsOf N)
  add_rule to via p = record {
    refusals = gateway_refusals to via p.routes;
    otherwise = done (record p { routes = after_gateway to via p.routes });
  }

  -- a gateway route goes
  unfoldable pub delete_rule : Prefix → PartsOf N → Rule (PartsOf N)
  delete_rule to p = record {
    refusals = delete_refusals to p.routes;
    otherwise = done (record p { routes = after_delete to p.routes });
  }
