-- Commands on a stack's tables, as rules over its scene, under other names of halves.
use Rattle.std.proofs.Common.{◌≡◌, ℕ, Bool, List, map, Option, Some, None, refl, ap, ◌∙◌}
use Rattle.std.specs.Option.{option_map}
use Rattle.vn_types.specs.declared.address.Ip4.{Ip4}
use Rattle.vn_types.specs.declared.address.Prefix.{Prefix}
use Rattle.vn_types.specs.declared.interface.IfOf.{IfOf}
use Rattle.vn_types.specs.Interfaces.{as_if}
use Rattle.vn_rules.specs.declared.address.AddrOf.{AddrOf}
use Rattle.vn_rules.specs.declared.parts.PartsOf.{PartsOf}
use Rattle.vn_rules.specs.AddressCommands.{inet_rule, alias_rule}
use Rattle.vn_rules.specs.Renamed.{as_socket, renamed}
use Rattle.vn_rules.specs.RouteCommands.{add_rule, delete_rule}
use Rattle.vn_rules.specs.Rules.{Rule, done}
use Rattle.vn_rules.specs.Scenes.{SceneOf, renamed_scene}
use Rattle.vn_rules.specs.SocketCommands.{open_rule, bind_rule, ttl_rule, close_rule}
use Rattle.vn_rules.specs.SocketRefusals.{bind_refusals}
use Rattle.vn_rules.specs.Soundness.{is_bound_locally}
use Rattle.vn_rules.specs.TableCommands.{get_rule, set_rule, arp_delete_rule}
use Rattle.vn_rules.proofs.AddressAdded.{with_address-renamed, inet_refusals-renamed, alias_refusals-renamed}
use Rattle.vn_rules.proofs.AddressLaws.{local-renamed}
use Rattle.vn_rules.proofs.PurgeRenamed.{dropped-renamed}
use Rattle.vn_rules.proofs.ResolutionLaws.{after_arp_delete-renamed, arp_delete_refusals-renamed}
use Rattle.vn_rules.proofs.RouteLaws.{gateway_refusals-renamed, delete_refusals-renamed, after_gateway-renamed, after_delete-renamed}
use Rattle.vn_rules.proofs.RuleLaws.{over}
use Rattle.vn_rules.proofs.SocketLaws.{open_refusals-renamed, closed_refusals-renamed, bind_refusals-renamed, after_open-renamed, after_bind-renamed, with_ttl-renamed, after_close-renamed}
use Rattle.vn_packets.specs.Renamed.{as_rule}
use Rattle.vn_packets.specs.Tables.{on_tables}

-- a rule over another state
abbrev pub rule_over : {S T : Type 0} → (S → T) → Rule S → Rule T
rule_over f rule = record { refusals = rule.refusals; otherwise = over f rule.otherwise }

module _ {N M : Type 0} (r : N → M) where
  pub on_tables-renamed : (s : SceneOf N) (rule : Rule (PartsOf N)) (other : Rule (PartsOf M)) → other ≡ rule_over (renamed r) rule → on_tables (renamed_scene r s) other ≡ as_rule r (on_tables s rule)
  unfolding renamed_scene
  on_tables-renamed s rule other same i = on_tables (renamed_scene r s) (same i)

  pub add_rule-over : (to : Prefix) (via : Ip4) (p : PartsOf N) → add_rule to via (renamed r p) ≡ rule_over (renamed r) (add_rule to via p)
  unfolding add_rule renamed
  add_rule-over to via p i = record {
    refusals = gateway_refusals-renamed r to via p.routes i;
    otherwise = done (record (renamed r p) { routes = after_gateway-renamed r to via p.routes i });
  }

  pub delete_rule-over : (to : Prefix) (p : PartsOf N) → delete_rule to (renamed r p) ≡ rule_over (renamed r) (delete_rule to p)
  unfolding delete_rule renamed
  delete_rule-over to p i = record {
    refusals = delete_refusals-renamed r to p.routes i;
    otherwise = done (record (renamed r p) { routes = after_delete-renamed r to p.routes i });
  }

  pub get_rule-over : (name : List ℕ) (p : PartsOf N) → get_rule name (renamed r p) ≡ rule_over (renamed r) (get_rule name p)
  unfolding get_rule renamed
  get_rule-over name p = refl

  pub set_rule-over : (name : List ℕ) (value : ℕ) (p : PartsOf N) → set_rule name value (renamed r p) ≡ rule_over (renamed r) (set_rule name value p)
  unfolding set_rule renamed
  set_rule-over name value p = refl

  pub arp_delete_rule-over : (ip : Ip4) (p : PartsOf N) → arp_delete_rule ip (renamed r p) ≡ rule_over (renamed r) (arp_delete_rule ip p)
  unfolding arp_delete_rule renamed
  arp_delete_rule-over ip p i = record {
    refusals = arp_delete_refusals-renamed r ip p.arp i;
    otherwise = done (after_arp_delete-renamed r ip p i);
  }

  pub open_rule-over : (name : List ℕ) (p : PartsOf N) → open_rule name (renamed r p) ≡ rule_over (renamed r) (open_rule name p)
  unfolding open_rule renamed
  open_rule-over name p i = record {
    refusals = open_refusals-renamed r name p.sockets i;
    otherwise = done (record (renamed r p) { sockets = after_open-renamed r name p.sockets i });
  }

  bound-so : (ip : Option Ip4) (p : PartsOf N) → is_bound_locally (renamed r p) ip ≡ is_bound_locally p ip
  unfolding renamed
  bound-so None p = refl
  bound-so (Some ip) p = local-renamed r ip p.addresses

  pub bind_rule-over : (name : List ℕ) (ip : Option Ip4) (port : ℕ) (p : PartsOf N) → bind_rule name ip port (renamed r p) ≡ rule_over (renamed r) (bind_rule name ip port p)
  unfolding bind_rule renamed
  bind_rule-over name ip port p i = record {
    refusals = (ap (λ own. bind_refusals name ip port own (map (as_socket r) p.sockets)) (bound-so ip p) ∙ bind_refusals-renamed r name ip port (is_bound_locally p ip) p.sockets) i;
    otherwise = done (record (renamed r p) { sockets = after_bind-renamed r name ip port p.sockets i });
  }

  pub ttl_rule-over : (name : List ℕ) (ttl : ℕ) (p : PartsOf N) → ttl_rule name ttl (renamed r p) ≡ rule_over (renamed r) (ttl_rule name ttl p)
  unfolding ttl_rule renamed
  ttl_rule-over name ttl p i = record {
    refusals = closed_refusals-renamed r name p.sockets i;
    otherwise = done (record (renamed r p) { sockets = with_ttl-renamed r name ttl p.sockets i });
  }

  pub close_rule-over : (name : List ℕ) (p : PartsOf N) → close_rule name (renamed r p) ≡ rule_over (renamed r) (close_rule name p)
  unfolding close_rule renamed
  close_rule-over name p i = record {
    refusals = closed_refusals-renamed r name p.sockets i;
    otherwise = done (record (renamed r p) { sockets = after_close-renamed r name p.sockets i });
  }

  module _ (at_n : N → N → Bool) (at_m : M → M → Bool) (faithful : (a b : N) → at_m (r a) (r b) ≡ at_n a b) where
    pub inet_rule-over : (on : Option (IfOf N)) (ip : Ip4) (len : ℕ) (p : PartsOf N) → inet_rule at_m (option_map (as_if r) on) ip len (renamed r p) ≡ rule_over (renamed r) (inet_rule at_n on ip len p)
    unfolding inet_rule
    inet_rule-over None ip len p = refl
    inet_rule-over (Some on) ip len p =
        let a : AddrOf N = record { on = on; ip = ip; len = len } in λ i. record {
          refusals = inet_refusals-renamed r at_n at_m faithful a p i;
          otherwise = done (with_address-renamed r a p i);
        }

    pub alias_rule-over : (on : Option (IfOf N)) (ip : Ip4) (p : PartsOf N) → alias_rule at_m (option_map (as_if r) on) ip (renamed r p) ≡ rule_over (renamed r) (alias_rule at_n on ip p)
    unfolding alias_rule
    alias_rule-over None ip p = refl
    alias_rule-over (Some on) ip p = λ i. record {
      refusals = alias_refusals-renamed r at_n at_m faithful on ip p i;
      otherwise = done (dropped-renamed r at_n at_m faithful on ip p i);
    }
