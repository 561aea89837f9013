-- Commands on addresses and routes: what each leaves of sound parts is sound, and each goes through a renaming.
use Rattle.std.proofs.Common.{◌≡◌, ℕ, Bool, true, false, not, nat_le, Option, Some, None, refl, sym, ap}
use Rattle.std.specs.Bool.{Decides}
use Rattle.std.specs.Option.{IfSome, option_map}
use Rattle.vn_types.proofs.Options.{none_some}
use Rattle.vn_types.specs.declared.address.Ip4.{Ip4}
use Rattle.vn_types.specs.declared.address.Prefix.{Prefix}
use Rattle.vn_types.specs.declared.errno.Errno.TheVariants.{Srch}
use Rattle.vn_types.specs.declared.interface.IfOf.{IfOf}
use Rattle.vn_types.specs.Interfaces.{as_if}
use Rattle.vn_types.specs.Refusals.{first_refusal}
use Rattle.std.specs.Prelude.{[], ◌∷◌}
use Rattle.vn_rules.specs.declared.parts.PartsOf.{PartsOf}
use Rattle.vn_rules.specs.AddressCommands.{inet_rule, alias_rule}
use Rattle.vn_rules.specs.Interfaces.{is_among}
use Rattle.vn_rules.specs.Networks.{is_network}
use Rattle.vn_rules.specs.Renamed.{renamed}
use Rattle.vn_rules.specs.RouteCommands.{add_rule, delete_rule}
use Rattle.vn_rules.specs.Routes.{has_gateway}
use Rattle.vn_rules.specs.Rules.{answer_by, answer, done}
use Rattle.vn_rules.specs.Soundness.{is_sound_parts}
use Rattle.vn_rules.proofs.AddressAdded.{with_address-sound, with_address-renamed, inet_refusals-renamed, alias_refusals-renamed}
use Rattle.vn_rules.proofs.AddressRemoval.{dropped-sound}
use Rattle.vn_rules.proofs.PurgeRenamed.{dropped-renamed}
use Rattle.vn_rules.proofs.RouteAdded.{after_gateway-sound, after_delete-sound}
use Rattle.vn_rules.proofs.RouteLaws.{gateway_refusals-renamed, delete_refusals-renamed, after_gateway-renamed, after_delete-renamed}
use Rattle.vn_rules.proofs.RuleLaws.{over, answer-left, answer-over}

module _ {N : Type 0} (same : N → N → Bool) (decides : (a b : N) → Decides (same a b) (a ≡ b)) (p : PartsOf N) (sound : is_sound_parts same p ≡ true) where
  -- the interface stands there, and the length is at most 32
  pub inet_rule-sound : (on : Option (IfOf N)) (ip : Ip4) (len : ℕ) → IfSome on (λ i. is_among same p.interfaces i ≡ true) → nat_le len 32 ≡ true → is_sound_parts same (answer p (inet_rule same on ip len p)).left ≡ true
  unfolding inet_rule answer_by
  inet_rule-sound None ip len own short = sound
  inet_rule-sound (Some on) ip len own short = answer-left (λ q. is_sound_parts same q ≡ true) p (inet_rule same (Some on) ip len p) sound
      (λ none. with_address-sound same (record { on = on; ip = ip; len = len }) p decides own short none sound)

  pub alias_rule-sound : (on : Option (IfOf N)) (ip : Ip4) → is_sound_parts same (answer p (alias_rule same on ip p)).left ≡ true
  unfolding alias_rule answer_by
  alias_rule-sound None ip = sound
  alias_rule-sound (Some on) ip = answer-left (λ q. is_sound_parts same q ≡ true) p (alias_rule same (Some on) ip p) sound (λ none. dropped-sound same on ip p decides sound)

  -- the prefix is a network's
  pub add_rule-sound : (to : Prefix) (via : Ip4) → is_network to ≡ true → is_sound_parts same (answer p (add_rule to via p)).left ≡ true
  unfolding add_rule
  add_rule-sound to via network = answer-left (λ q. is_sound_parts same q ≡ true) p (add_rule to via p) sound (λ none. after_gateway-sound same decides p sound to via network none)

  pub delete_rule-sound : (to : Prefix) → is_sound_parts same (answer p (delete_rule to p)).left ≡ true
  unfolding delete_rule
  delete_rule-sound to = answer-left (λ q. is_sound_parts same q ≡ true) p (delete_rule to p) sound (λ none. after_delete-sound same decides p sound to (there (has_gateway to p.routes) none))
    where
      there : (b : Bool) → first_refusal ((not b, Srch) ∷ []) ≡ None → b ≡ true
      there true none = refl
      there false none = absurd (none_some Srch (sym none))

module _ {N M : Type 0} (r : N → M) where
  pub add_rule-renamed : (to : Prefix) (via : Ip4) (p : PartsOf N) → answer (renamed r p) (add_rule to via (renamed r p)) ≡ over (renamed r) (answer p (add_rule to via p))
  unfolding add_rule renamed
  add_rule-renamed to via p = answer-over (renamed r) p (add_rule to via p) (add_rule to via (renamed r p)) (gateway_refusals-renamed r to via p.routes)
      (λ i. done (record (renamed r p) { routes = after_gateway-renamed r to via p.routes i }))

  pub delete_rule-renamed : (to : Prefix) (p : PartsOf N) → answer (renamed r p) (delete_rule to (renamed r p)) ≡ over (renamed r) (answer p (delete_rule to p))
  unfolding delete_rule renamed
  delete_rule-renamed to p = answer-over (renamed r) p (delete_rule to p) (delete_rule to (renamed r p)) (delete_refusals-renamed r to p.routes)
      (λ i. done (record (renamed r p) { routes = after_delete-renamed r to p.routes i }))

  module _ (at_n : N → N → Bool) (at_m : M → M → Bool) (faithful : (a b : N) → at_m (r a) (r b) ≡ at_n a b) where
    pub inet_rule-renamed : (on : Option (IfOf N)) (ip : Ip4) (len : ℕ) (p : PartsOf N) → answer (renamed r p) (inet_rule at_m (option_map (as_if r) on) ip len (renamed r p)) ≡ over (renamed r) (answer p (inet_rule at_n on ip len p))
    unfolding inet_rule
    inet_rule-renamed None ip len p = answer-over (renamed r) p (inet_rule at_n None ip len p) (inet_rule at_m None ip len (renamed r p)) refl refl
    inet_rule-renamed (Some on) ip len p = answer-over (renamed r) p (inet_rule at_n (Some on) ip len p) (inet_rule at_m (Some (as_if r on)) ip len (renamed r p))
        (inet_refusals-renamed r at_n at_m faithful (record { on = on; ip = ip; len = len }) p) (ap done (with_address-renamed r (record { on = on; ip = ip; len = len }) p))

    pub alias_rule-renamed : (on : Option (IfOf N)) (ip : Ip4) (p : PartsOf N) → answer (renamed r p) (alias_rule at_m (option_map (as_if r) on) ip (renamed r p)) ≡ over (renamed r) (answer p (alias_rule at_n on ip p))
    unfolding alias_rule
    alias_rule-renamed None ip p = answer-over (renamed r) p (alias_rule at_n None ip p) (alias_rule at_m None ip (renamed r p)) refl refl
    alias_rule-renamed (Some on) ip p = answer-over (renamed r) p (alias_rule at_n (Some on) ip p) (alias_rule at_m (Some (as_if r on)) ip (renamed r p))
        (alias_refusals-renamed r at_n at_m faithful on ip p) (ap done (dropped-renamed r at_n at_m faithful on ip p))
