-- The tables of one stack change: what becomes of all of them, and that they are sound.
use Rattle.std.proofs.Common.{◌≡◌, ◌≢◌, ℕ, Bool, true, false, cond, ◌==◌, List, length, refl, sym, ap, subst, ◌∙◌, ⊎_elim}
use Rattle.std.specs.Prelude.{is_some, count_by, IfSome, Some}
use Rattle.std.specs.List.{list_all}
use Rattle.std.proofs.lemmas.Bool.{both_ways, cases_eq, eq-eqb, eqb-true, false_from_ne_true}
use Rattle.vn_types.specs.declared.interface.HalfId.{HalfId}
use Rattle.vn_types.specs.declared.interface.IfName.{IfName}
use Rattle.vn_types.specs.declared.interface.IfName.TheVariants.{Epair}
use Rattle.vn_types.specs.declared.interface.IfOf.{IfOf}
use Rattle.vn_types.specs.Interfaces.{half_id_eq, if_same}
use Rattle.vn_types.specs.PerStack.{ChangesOnly}
use Rattle.vn_types.proofs.PerStackLaws.{after as changes_after}
use Rattle.vn_rules.specs.declared.address.AddrOf.{AddrOf}
use Rattle.vn_rules.specs.declared.parts.PartsOf.{PartsOf}
use Rattle.vn_rules.specs.declared.ping.PingsOf.{PingsOf}
use Rattle.vn_rules.specs.declared.socket.SocketOf.{SocketOf}
use Rattle.vn_rules.specs.declared.timer.TimersOf.{TimersOf}
use Rattle.vn_rules.specs.Construction.{bare_parts}
use Rattle.vn_rules.specs.Routes.{Routed}
use Rattle.vn_rules.specs.Scenes.{is_queue}
use Rattle.vn_rules.specs.Soundness.{is_sound_parts}
use Rattle.vn_rules.specs.Variables.{declarations}
use Rattle.vn_arp.specs.Kept.{KeptOf, KnowsArms, entries_of}
use Rattle.vn_arp.specs.Stacks.{of as arp_of}
use Rattle.vn_callout.specs.Stacks.{of as timers_of}
use Rattle.vn_epair.specs.Pairs.{end_of, of as pair_of}
use Rattle.vn_icmp.specs.Stacks.{of as pings_of}
use Rattle.vn_ifnet.specs.Stacks.{is_another, reserved_by}
use Rattle.vn_inaddr.specs.Stacks.{of as addresses_of}
use Rattle.vn_loop.specs.Queues.{of as loopback_of}
use Rattle.vn_route.specs.Stacks.{of as routes_of}
use Rattle.vn_sock.specs.Stacks.{of as sockets_of}
use Rattle.vn_store.specs.Held.{of as variables_of}
use Rattle.vn_vmove.specs.declared.tables.Tables.{Tables}
use Rattle.vn_vmove.specs.Leaving.{KeepsRest, KnowsTimers, Leaves}
use Rattle.vn_vmove.specs.Nets.{Becomes, net_of, on_stack}
use Rattle.vn_vmove.specs.Parts.{held, lives, pair_at, parts}
use Rattle.vn_vmove.specs.Sound.{IsHomedAs, IsSound, is_rightly_named, name_in, stands_at, times_listed}
use Rattle.vn_vmove.specs.Tallies.{of as tallies_of}

abbrev Parts : Type 0
Parts = PartsOf HalfId

-- ---- what is written

module _ (sid : ℕ) (t : Tables) (addrs : List (List (AddrOf HalfId))) (routes : List (List (Routed HalfId))) (arp : List (List (KeptOf HalfId))) (pings : List (PingsOf HalfId)) (socks : List (List (SocketOf HalfId)))
    (wheel : List (TimersOf HalfId)) where
  -- the tables, with these in the place of theirs
  abbrev pub written : Tables
  written = record t { addrs = addrs; routes = routes; arp = arp; pings = pings; socks = socks; wheel = wheel }

  -- where each of them differs in one stack alone
  pub leaves : (rule : Parts → Parts) → parts written sid ≡ rule (parts t sid) → ChangesOnly sid (addresses_of t.addrs) (addresses_of addrs) → ChangesOnly sid (routes_of t.routes) (routes_of routes)
      → ChangesOnly sid (arp_of t.arp) (arp_of arp) → ChangesOnly sid (pings_of t.pings) (pings_of pings) → ChangesOnly sid (sockets_of t.socks) (sockets_of socks) → ChangesOnly sid (timers_of t.wheel) (timers_of wheel)
      → (KnowsTimers t sid → KnowsTimers written sid) → Leaves rule sid t written
  leaves rule here a r e p s w knows = record {
    here = here;
    others = record {
      others = λ q ne i. record (parts t q) {
        addresses = a.others q ne i;
        routes = r.others q ne i;
        arp = entries_of (e.others q ne i);
        pings = p.others q ne i;
        sockets = s.others q ne i;
        timers = w.others q ne i;
      };
    };
    arms = λ q known. ⊎_elim (at q known) (off q known) (cases_eq q sid);
    rest = record { ifs = refl; pairs = refl; loops = refl; vars = refl; tallies = refl };
  }
    where
      at : (q : ℕ) → KnowsTimers t q → q ≡ sid → KnowsTimers written q
      at q known is = subst (KnowsTimers written) (sym is) (knows (subst (KnowsTimers t) is known))

      off : (q : ℕ) → KnowsTimers t q → q ≢ sid → KnowsTimers written q
      off q known ne = subst (λ (x : List (KeptOf HalfId) × TimersOf HalfId). KnowsArms half_id_eq x.0 x.1) (λ i. (sym (e.others q ne) i, sym (w.others q ne) i)) known

-- ---- one after another

pub rest_after : (t u v : Tables) → KeepsRest t u → KeepsRest u v → KeepsRest t v
rest_after t u v one two = record {
  ifs = two.ifs ∙ one.ifs;
  pairs = two.pairs ∙ one.pairs;
  loops = two.loops ∙ one.loops;
  vars = two.vars ∙ one.vars;
  tallies = two.tallies ∙ one.tallies;
}

pub leaves_after : (f g : Parts → Parts) (sid : ℕ) (t u v : Tables) → Leaves f sid t u → Leaves g sid u v → Leaves (λ p. g (f p)) sid t v
leaves_after f g sid t u v one two = record {
  here = two.here ∙ ap g one.here;
  others = changes_after sid (parts t) (parts u) (parts v) one.others two.others;
  arms = λ q known. two.arms q (one.arms q known);
  rest = rest_after t u v one.rest two.rest;
}

-- by a rule that makes the same of the stack's tables
pub leaves_by : (f g : Parts → Parts) (sid : ℕ) (t u : Tables) → f (parts t sid) ≡ g (parts t sid) → Leaves f sid t u → Leaves g sid t u
leaves_by f g sid t u same l = record { here = l.here ∙ same; others = l.others; arms = l.arms; rest = l.rest }

-- ---- as an edit of all tables

module _ (rule : Parts → Parts) (sid : ℕ) (t u : Tables) where
  pub leaves_from : Becomes (on_stack sid rule (net_of t)) t u → KeepsRest t u → IsSound u → Leaves rule sid t u
  leaves_from becomes rest sound = record {
    here = becomes.parts sid ∙ ap (λ b. cond b (rule (parts t sid)) (parts t sid)) (eq-eqb sid sid refl);
    others = record {
      others = λ q ne. becomes.parts q ∙ ap (λ b. cond b (rule (parts t q)) (parts t q)) (false_from_ne_true (q == sid) (λ is. ne (eqb-true q sid is)));
    };
    arms = λ q known. sound.arms q;
    rest = rest;
  }

  module _ (l : Leaves rule sid t u) where
    -- what holds of a stack's tables before, and of what the rule makes of them, holds afterwards
    by_stack : (P : Parts → Type 0) (q : ℕ) → P (parts t q) → P (rule (parts t q)) → P (parts u q)
    by_stack P q same ruled = ⊎_elim here elsewhere (cases_eq q sid)
      where
        here : q ≡ sid → P (parts u q)
        here is = subst P (sym (ap (parts u) is ∙ l.here ∙ ap (λ n. rule (parts t n)) (sym is))) ruled

        elsewhere : q ≢ sid → P (parts u q)
        elsewhere ne = subst P (sym (l.others.others q ne)) same

    same_lives : (q : ℕ) → lives u q ≡ lives t q
    same_lives q = ap (λ rows. is_some (tallies_of rows q)) l.rest.tallies

    pub leaves-becomes : Becomes (on_stack sid rule (net_of t)) t u
    leaves-becomes = record {
      parts = λ q. by q (q == sid) refl;
      pairs = λ n. ap (λ rows. pair_of rows n) l.rest.pairs;
      lives = same_lives;
      numbers = ap length l.rest.pairs;
    }
      where
        by : (q : ℕ) (b : Bool) → (q == sid) ≡ b → parts u q ≡ cond b (rule (parts t q)) (parts t q)
        by q true is = let same : q ≡ sid = eqb-true q sid is in ap (parts u) same ∙ l.here ∙ ap (λ n. rule (parts t n)) (sym same)
        by q false off = l.others.others q (λ is. both_ways (q == sid) off (eq-eqb q sid is))

    -- ---- soundness

    -- the tables, of which most is as before
    abbrev over : Tables
    over = record u { ifs = t.ifs; pairs = t.pairs; loops = t.loops; vars = t.vars; tallies = t.tallies }

    still : (P : Tables → Type 0) → P over → P u
    still P holds = subst P (sym same) holds
      where
        same : u ≡ over
        same = λ i. record u { ifs = l.rest.ifs i; pairs = l.rest.pairs i; loops = l.rest.loops i; vars = l.rest.vars i; tallies = l.rest.tallies i }

    -- where the rule keeps what is sound, and nothing of a stack that does not live
    pub leaves-sound : ((p : Parts) → is_sound_parts half_id_eq p ≡ true → is_sound_parts half_id_eq (rule p) ≡ true) → rule bare_parts ≡ bare_parts → IsSound t → IsSound u
    leaves-sound keeps bare s = record {
      tables = λ q alive. let was : lives t q ≡ true = sym (same_lives q) ∙ alive in by_stack (λ p. is_sound_parts half_id_eq p ≡ true) q (s.tables q was) (keeps (parts t q) (s.tables q was));
      bare = λ q dead. let was : lives t q ≡ false = sym (same_lives q) ∙ dead in by_stack (λ p. p ≡ bare_parts) q (s.bare q was) (ap rule (s.bare q was) ∙ bare);
      instances = still (λ (v : Tables). (q : ℕ) → is_some (variables_of v.vars q) ≡ lives v q) s.instances;
      loopbacks = still (λ (v : Tables). (q : ℕ) → is_some (loopback_of v.loops q) ≡ lives v q) s.loopbacks;
      declared = still (λ (v : Tables). v.vars.declared ≡ declarations) s.declared;
      listed = still (λ (v : Tables). (q : ℕ) (on : IfOf HalfId) → count_by (if_same half_id_eq on) (parts v q).interfaces ≡ times_listed v q on) s.listed;
      places = still (λ (v : Tables). (h : HalfId) → IfSome (pair_at v h.pair) (λ pair. lives v (end_of h.side pair).at ≡ true)) s.places;
      homes = still (λ (v : Tables). (n : ℕ) → IfSome (pair_at v n) (λ pair. lives v pair.home ≡ true)) s.homes;
      names = still (λ (v : Tables). (q : ℕ) → list_all (is_rightly_named v) (held v q).attached ≡ true) s.names;
      once = still (λ (v : Tables). (q : ℕ) (g h : HalfId) → stands_at q g.side (pair_at v g.pair) ≡ true → stands_at q h.side (pair_at v h.pair) ≡ true → name_in v g ≡ name_in v h → g ≡ h) s.once;
      reserved = still (λ (v : Tables). (q : ℕ) (name : IfName) → IfSome (reserved_by name (held v q)) (λ h. IsHomedAs q name h.side (pair_at v h.pair))) s.reserved;
      homed = still (λ (v : Tables). (h : HalfId) → IfSome (pair_at v h.pair) (λ pair. reserved_by (Epair pair.unit h.side) (held v pair.home) ≡ Some h)) s.homed;
      apart = still (λ (v : Tables). (h : HalfId) → IfSome (pair_at v h.pair) (λ pair. is_another (reserved_by (Epair pair.unit h.side) (held v (end_of h.side pair).at)) (Some h) ≡ false)) s.apart;
      arms = λ q. l.arms q (s.arms q);
      queues = still (λ (v : Tables). (h : HalfId) → IfSome (pair_at v h.pair) (λ pair. is_queue (end_of h.side pair).sent ≡ true)) s.queues;
    }
