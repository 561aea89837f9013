-- Tables in which nothing is kept are sound.
use Rattle.std.proofs.Common.{◌≡◌, ℕ, false, [], Option, Some, None, map, sym, ap, ◌∙◌}
use Rattle.std.specs.Prelude.{is_some, unwrap_or, count_by, IfSome}
use Rattle.std.specs.List.{list_all}
use Rattle.std.proofs.lemmas.Bool.{both_ways}
use Rattle.vn_types.specs.declared.interface.HalfId.{HalfId}
use Rattle.vn_types.specs.declared.interface.IfOf.{IfOf}
use Rattle.vn_types.specs.declared.interface.IfOf.TheVariants.{Lo0, Half}
use Rattle.vn_types.specs.Interfaces.{half_id_eq, if_same}
use Rattle.vn_rules.specs.Pings.{no_pings}
use Rattle.vn_rules.specs.Timers.{no_timers}
use Rattle.vn_rules.specs.Variables.{declarations}
use Rattle.vn_arp.specs.Kept.{entries_of}
use Rattle.vn_arp.specs.Stacks.{of as arp_of}
use Rattle.vn_arp.proofs.Known.{knows-new}
use Rattle.vn_callout.specs.Stacks.{of as timers_of}
use Rattle.vn_epair.specs.Pairs.{of as pair_of}
use Rattle.vn_icmp.specs.Stacks.{of as pings_of}
use Rattle.vn_ifnet.specs.declared.interfaces.Attached.{Attached}
use Rattle.vn_ifnet.specs.Stacks.{Held, nothing, of as held_of, reserved_by}
use Rattle.vn_inaddr.specs.Stacks.{of as addresses_of}
use Rattle.vn_loop.specs.Queues.{of as loopback_of}
use Rattle.vn_route.specs.Stacks.{of as routes_of}
use Rattle.vn_sock.specs.Stacks.{of as sockets_of}
use Rattle.vn_store.specs.Held.{of as variables_of}
use Rattle.vn_vmove.specs.declared.tables.Tables.{Tables}
use Rattle.vn_vmove.specs.Parts.{lives, pair_at, parts}
use Rattle.vn_vmove.specs.Sound.{IsSound, is_rightly_named, stands_at, times, times_listed}
use Rattle.vn_vmove.specs.Tallies.{first_counts, of as tallies_of}

-- tables in which no stack and no pair has anything
pub record IsEmpty (t : Tables) : Type 0 where
  pub ifs : (q : ℕ) → held_of t.ifs q ≡ nothing
  pub pairs : t.pairs ≡ []
  pub loops : (q : ℕ) → loopback_of t.loops q ≡ None
  pub addrs : (q : ℕ) → addresses_of t.addrs q ≡ []
  pub routes : (q : ℕ) → routes_of t.routes q ≡ []
  pub arp : (q : ℕ) → arp_of t.arp q ≡ []
  pub pings : (q : ℕ) → pings_of t.pings q ≡ no_pings
  pub socks : (q : ℕ) → sockets_of t.socks q ≡ []
  pub wheel : (q : ℕ) → timers_of t.wheel q ≡ no_timers
  pub declared : t.vars.declared ≡ declarations
  pub vars : (q : ℕ) → variables_of t.vars q ≡ None
  pub tallies : (q : ℕ) → tallies_of t.tallies q ≡ None

-- what is to hold of what is there holds where nothing is
holds_of_none : {A : Type 0} (o : Option A) (P : A → Type 0) → o ≡ None → IfSome o P
holds_of_none None P none = tt
holds_of_none (Some x) P none = absurd (cc)

module _ (t : Tables) (e : IsEmpty t) where
  pub none-lives : (q : ℕ) → lives t q ≡ false
  none-lives q = ap is_some (e.tallies q)

  no_pair : (n : ℕ) → pair_at t n ≡ None
  no_pair n = ap (λ rows. pair_of rows n) e.pairs

  lists_none : (q : ℕ) (on : IfOf HalfId) → count_by (if_same half_id_eq on) (parts t q).interfaces ≡ 0
  lists_none q on = ap (λ (h : Held). count_by (if_same half_id_eq on) (map (λ (a : Attached). a.what) h.attached)) (e.ifs q)

  none_listed : (q : ℕ) (on : IfOf HalfId) → times_listed t q on ≡ 0
  none_listed q Lo0 = ap times (none-lives q)
  none_listed q (Half h) = ap (λ o. times (stands_at q h.side o)) (no_pair h.pair)

  pub empty-sound : IsSound t
  empty-sound = record {
    tables = λ q alive. absurd (both_ways (lives t q) (none-lives q) alive);
    bare = λ q dead i. record {
      variables = unwrap_or (e.vars q i) [];
      interfaces = map (λ (a : Attached). a.what) (e.ifs q i).attached;
      addresses = e.addrs q i;
      routes = e.routes q i;
      arp = entries_of (e.arp q i);
      sockets = e.socks q i;
      timers = e.wheel q i;
      loopback = unwrap_or (e.loops q i) [];
      pings = e.pings q i;
      ident = (unwrap_or (e.tallies q i) first_counts).ident;
      drops = (unwrap_or (e.tallies q i) first_counts).drops;
    };
    instances = λ q. ap is_some (e.vars q) ∙ sym (none-lives q);
    loopbacks = λ q. ap is_some (e.loops q) ∙ sym (none-lives q);
    declared = e.declared;
    listed = λ q on. lists_none q on ∙ sym (none_listed q on);
    places = λ h. holds_of_none _ _ (no_pair h.pair);
    homes = λ n. holds_of_none _ _ (no_pair n);
    names = λ q. ap (λ (h : Held). list_all (is_rightly_named t) h.attached) (e.ifs q);
    once = λ q g h here there same. absurd (both_ways (stands_at q g.side (pair_at t g.pair)) (ap (stands_at q g.side) (no_pair g.pair)) here);
    reserved = λ q name. holds_of_none _ _ (ap (reserved_by name) (e.ifs q));
    homed = λ h. holds_of_none _ _ (no_pair h.pair);
    apart = λ h. holds_of_none _ _ (no_pair h.pair);
    arms = λ q. knows-new (arp_of t.arp q) (timers_of t.wheel q) (e.arp q) (e.wheel q);
    queues = λ h. holds_of_none _ _ (no_pair h.pair);
  }
