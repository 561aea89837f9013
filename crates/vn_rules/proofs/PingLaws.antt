-- Awaited pings under other names of halves: what is found, added and taken out goes through a renaming.
use Rattle.std.proofs.Common.{◌≡◌, ℕ, ◌+◌, Bool, true, false, cond, List, [], ◌∷◌, map, refl, sym, ap, ◌∙◌}
use Rattle.std.specs.Option.{option_map}
use Rattle.std.proofs.lemmas.List.{map-append}
use Rattle.vn_types.specs.declared.address.Ip4.{Ip4}
use Rattle.vn_types.specs.declared.interface.IfOf.{IfOf}
use Rattle.vn_types.specs.Interfaces.{as_if}
use Rattle.vn_types.proofs.ListMaps.{find_map_same}
use Rattle.vn_rules.specs.declared.ping.PingOf.{PingOf}
use Rattle.vn_rules.specs.declared.ping.PingsOf.{PingsOf}
use Rattle.vn_rules.specs.declared.timer.TimerOf.TheVariants.{Ping}
use Rattle.vn_rules.specs.declared.parts.PartsOf.{PartsOf}
use Rattle.vn_rules.specs.Pings.{reply_time, after_ping, next_ping, awaiting, is_answered_by, is_quoted_by, is_timed_by, awaited_by, awaited_for, timed_by, without_first, after_first, without_ping}
use Rattle.vn_rules.specs.Renamed.{as_ping, as_pings, renamed}
use Rattle.vn_rules.proofs.PingRemoval.{without_pings-renamed}
use Rattle.vn_rules.proofs.TimerLaws.{after_arm-renamed}

module _ {N M : Type 0} (r : N → M) where
  pub after_ping-renamed : (ping : PingOf N) (pings : PingsOf N) → after_ping (as_ping r ping) (as_pings r pings) ≡ as_pings r (after_ping ping pings)
  after_ping-renamed ping pings i = record { next = (after_ping ping pings).next; awaited = sym (map-append (as_ping r) pings.awaited (ping ∷ [])) i }

  pub awaited_by-renamed : (id : ℕ) (from : Ip4) (pings : PingsOf N) → awaited_by id from (as_pings r pings) ≡ option_map (as_ping r) (awaited_by id from pings)
  awaited_by-renamed id from pings = find_map_same (as_ping r) (is_answered_by id from) (is_answered_by id from) (λ g. refl) pings.awaited

  pub awaited_for-renamed : (id : ℕ) (src dst : Ip4) (pings : PingsOf N) → awaited_for id src dst (as_pings r pings) ≡ option_map (as_ping r) (awaited_for id src dst pings)
  awaited_for-renamed id src dst pings = find_map_same (as_ping r) (is_quoted_by id src dst) (is_quoted_by id src dst) (λ g. refl) pings.awaited

  pub timed_by-renamed : (arm : ℕ) (pings : PingsOf N) → timed_by arm (as_pings r pings) ≡ option_map (as_ping r) (timed_by arm pings)
  timed_by-renamed arm pings = find_map_same (as_ping r) (is_timed_by arm) (is_timed_by arm) (λ g. refl) pings.awaited

  module _ (t : PingOf N → Bool) (u : PingOf M → Bool) (agree : (g : PingOf N) → u (as_ping r g) ≡ t g) where
    without_first-renamed : (gs : List (PingOf N)) → without_first u (map (as_ping r) gs) ≡ map (as_ping r) (without_first t gs)
    without_first-renamed [] = refl
    without_first-renamed (g ∷ gs) = ap (λ b. cond b (map (as_ping r) gs) (as_ping r g ∷ without_first u (map (as_ping r) gs))) (agree g) ∙ by (t g) (without_first-renamed gs)
      where
        by : (b : Bool) → without_first u (map (as_ping r) gs) ≡ map (as_ping r) (without_first t gs)
            → cond b (map (as_ping r) gs) (as_ping r g ∷ without_first u (map (as_ping r) gs)) ≡ map (as_ping r) (cond b gs (g ∷ without_first t gs))
        by true more = refl
        by false more = ap (λ rest. as_ping r g ∷ rest) more

    pub after_first-renamed : (pings : PingsOf N) → after_first u (as_pings r pings) ≡ as_pings r (after_first t pings)
    after_first-renamed pings i = record { next = pings.next; awaited = without_first-renamed pings.awaited i }

  pub awaiting-renamed : (now : ℕ) (src dst : Ip4) (out : IfOf N) (p : PartsOf N) → awaiting now src dst (as_if r out) (renamed r p) ≡ renamed r (awaiting now src dst out p)
  unfolding awaiting renamed
  awaiting-renamed now src dst out p i = record (renamed r p) {
    pings = after_ping-renamed (next_ping src dst out p) p.pings i;
    timers = after_arm-renamed r (now + reply_time) (Ping p.pings.next p.timers.armed) p.timers i;
  }

  pub without_ping-renamed : (ping : PingOf N) (p : PartsOf N) → without_ping (as_ping r ping) (renamed r p) ≡ renamed r (without_ping ping p)
  without_ping-renamed ping p = without_pings-renamed r (is_timed_by ping.arm) (is_timed_by ping.arm) (λ g. refl) p
