-- A stack is constructed in sound tables: they stay sound, and it has what the constructors leave.
use Rattle.std.proofs.Common.{◌≡◌, ◌≢◌, ℕ, length, true, false, [], map, Option, Some, None, IfSome, refl, sym, ap, ◌∙◌, subst}
use Rattle.std.specs.Prelude.{is_some, unwrap_or}
use Rattle.std.proofs.lemmas.Bool.{both_ways, ne_eqb}
use Rattle.vn_types.specs.declared.interface.HalfId.{HalfId}
use Rattle.vn_rules.specs.declared.parts.PartsOf.{PartsOf}
use Rattle.vn_arp.proofs.Followed.{none_there}
use Rattle.vn_epair.specs.Halves.{Pair}
use Rattle.vn_epair.specs.Pairs.{end_of}
use Rattle.vn_ifnet.specs.declared.interfaces.Attached.{Attached}
use Rattle.vn_loop.specs.Queues.{of as loopback_of}
use Rattle.vn_store.specs.Held.{of as variables_of}
use Rattle.vn_vmove.specs.declared.tables.Tables.{Tables}
use Rattle.vn_vmove.specs.Parts.{held, lives, pair_at, parts}
use Rattle.vn_vmove.specs.Sound.{IsSound, stands_at}
use Rattle.vn_vmove.specs.Tallies.{first_counts, of as tallies_of}
use Rattle.vn_kernel.specs.Constructors.{constructors}
use Rattle.vn_kernel.specs.Construction.{Constructs, HaveRun, BuildsOnly, with_built}
use Rattle.vn_kernel.specs.Removal.{IsAlone}
use Rattle.vn_kernel.proofs.Rebuilt.{BuildsOrRazes, rebuilds, unmapped}

-- ---- a stack that does not live

module _ (t : Tables) (s : IsSound t) (q : ℕ) (dead : lives t q ≡ false) where
  pub no-tally : tallies_of t.tallies q ≡ None
  no-tally = none_there (tallies_of t.tallies q) dead

  pub no-variables : variables_of t.vars q ≡ None
  no-variables = none_there (variables_of t.vars q) (s.instances q ∙ dead)

  pub no-loopback : loopback_of t.loops q ≡ None
  no-loopback = none_there (loopback_of t.loops q) (s.loopbacks q ∙ dead)

  pub no-interfaces : (held t q).attached ≡ []
  no-interfaces = unmapped (λ (a : Attached). a.what) (held t q).attached (ap (λ (p : PartsOf HalfId). p.interfaces) (s.bare q dead))

  -- ---- no constructor has run

  pub unbuilt : HaveRun 0 q t
  unbuilt = record {
    rows = s.bare q dead;
    counts = no-tally;
    declared = s.declared;
    variables = no-variables;
    interfaces = no-interfaces;
    loopback = no-loopback;
  }

-- nothing has changed yet
pub builds-nothing : (number : ℕ) (t : Tables) → BuildsOnly number t t
builds-nothing number t = record {
  counts = record { others = λ q ne. refl };
  variables = record { others = λ q ne. refl };
  declared = refl;
  interfaces = record { others = λ q ne. refl };
  reserved = refl;
  loopback = record { others = λ q ne. refl };
  addresses = record { others = λ q ne. refl };
  routes = record { others = λ q ne. refl };
  rest = refl;
}

-- one constructor after others
pub builds-then : (number : ℕ) (t u v : Tables) → BuildsOnly number t u → BuildsOnly number u v → BuildsOnly number t v
builds-then number t u v a b = record {
  counts = record { others = λ q ne. b.counts.others q ne ∙ a.counts.others q ne };
  variables = record { others = λ q ne. b.variables.others q ne ∙ a.variables.others q ne };
  declared = b.declared ∙ a.declared;
  interfaces = record { others = λ q ne. b.interfaces.others q ne ∙ a.interfaces.others q ne };
  reserved = b.reserved ∙ a.reserved;
  loopback = record { others = λ q ne. b.loopback.others q ne ∙ a.loopback.others q ne };
  addresses = record { others = λ q ne. b.addresses.others q ne ∙ a.addresses.others q ne };
  routes = record { others = λ q ne. b.routes.others q ne ∙ a.routes.others q ne };
  rest = b.rest ∙ ap (with_built v) a.rest;
}

-- ---- it is constructed

module _ (t u : Tables) (s : IsSound t) (sid : ℕ) (dead : lives t sid ≡ false) (is : HaveRun (length constructors) sid u) (kept : BuildsOnly sid t u) where
  abbrev built : Tables
  built = with_built u t

  -- ---- what it has

  other-parts : (q : ℕ) → q ≢ sid → parts built q ≡ parts t q
  other-parts q ne i = record (parts t q) {
    variables = unwrap_or (kept.variables.others q ne i) [];
    interfaces = map (λ (a : Attached). a.what) (kept.interfaces.others q ne i).attached;
    addresses = kept.addresses.others q ne i;
    routes = kept.routes.others q ne i;
    loopback = unwrap_or (kept.loopback.others q ne i) [];
    ident = (unwrap_or (kept.counts.others q ne i) first_counts).ident;
    drops = (unwrap_or (kept.counts.others q ne i) first_counts).drops;
  }

  -- ---- where no half stands

  alone : IsAlone sid t
  alone = record { empty = λ h. empty h (pair_at t h.pair) (s.places h); homeless = λ n. homeless (pair_at t n) (s.homes n) }
    where
      elsewhere : (q : ℕ) → lives t q ≡ true → q ≢ sid
      elsewhere q alive e = both_ways (lives t sid) dead (ap (lives t) (sym e) ∙ alive)

      empty : (h : HalfId) (o : Option Pair) → IfSome o (λ pair. lives t (end_of h.side pair).at ≡ true) → stands_at sid h.side o ≡ false
      empty h None is = refl
      empty h (Some pair) is = ne_eqb (end_of h.side pair).at sid (elsewhere (end_of h.side pair).at is)

      homeless : (o : Option Pair) → IfSome o (λ pair. lives t pair.home ≡ true) → IfSome o (λ pair. pair.home ≢ sid)
      homeless None is = tt
      homeless (Some pair) is = elsewhere pair.home is

  builds : BuildsOrRazes true sid t built
  builds = record {
    lives_here = ap is_some is.counts;
    variables_here = ap is_some is.variables;
    queue_here = ap is_some is.loopback;
    attached_here = is.interfaces;
    reserved_here = kept.reserved;
    arms_here = s.arms sid;
    parts_here = ap (λ (t : Tables). parts t sid) (sym kept.rest) ∙ is.rows;
    lives_there = record { others = λ q ne. ap is_some (kept.counts.others q ne) };
    variables_there = kept.variables;
    queues_there = kept.loopback;
    interfaces_there = kept.interfaces;
    arp_there = record { others = λ q ne. refl };
    timers_there = record { others = λ q ne. refl };
    parts_there = record { others = other-parts };
    declared = kept.declared;
  }

  -- when all constructors have run
  pub constructs : Constructs sid t u
  constructs = subst (Constructs sid t) (sym kept.rest) (rebuilds s alone builds)
