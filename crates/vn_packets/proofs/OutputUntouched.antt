-- What output leaves as it was: interfaces, addresses, routes, variables, sockets and awaited pings.
use Rattle.std.proofs.Common.{◌≡◌, ℕ, ◌+◌, Bool, true, false, cond, not, List, [], Option, Some, None, refl, ap, ◌∙◌}
use Rattle.vn_types.specs.declared.address.Ip4.{Ip4}
use Rattle.vn_types.specs.declared.address.Mac.{Mac}
use Rattle.vn_rules.specs.declared.parts.PartsOf.{PartsOf}
use Rattle.vn_rules.specs.Arp.{hit, holding, with_entry}
use Rattle.vn_rules.specs.Construction.{no_drops}
use Rattle.vn_rules.specs.Resolution.{request_time, asks, drops_oldest, after_hold, timed_entry}
use Rattle.vn_rules.specs.Rules.{Common}
use Rattle.vn_rules.specs.Scenes.{LinkOf, SceneOf, link_of, on_link}
use Rattle.vn_rules.specs.Timers.{no_timers}
use Rattle.vn_packets.specs.declared.outgoing.Outgoing.{Outgoing}
use Rattle.vn_packets.specs.declared.tally.Tally.{Tally}
use Rattle.vn_packets.specs.declared.tally.Tally.TheVariants as tally
use Rattle.vn_packets.specs.ArpPackets.{requested, sent_datagram, held, carried_by, carried}
use Rattle.vn_packets.specs.Drops.{on_parts, counted, lost, lost_if}
use Rattle.vn_packets.specs.Links.{is_link_full, enqueued, sent_by, sent}
use Rattle.vn_packets.specs.Output.{WayOf, Nowhere, Looped, By, way_to, identified, sent_along, next_datagram, output_left}

module _ {N : Type 0} where
  -- the tables without those that output changes
  abbrev pub bare : PartsOf N → PartsOf N
  bare p = record p { arp = []; timers = no_timers; loopback = []; ident = 0; drops = no_drops }

  -- those of a scene
  abbrev pub untouched : SceneOf N → PartsOf N
  untouched s = bare s.parts

  lost-untouched : (what : Tally) (n : ℕ) (s : SceneOf N) → untouched (lost what n s) ≡ untouched s
  unfolding counted
  lost-untouched what n s = refl

  either : (s t u : SceneOf N) (b : Bool) → untouched t ≡ untouched s → untouched u ≡ untouched s → untouched (cond b t u) ≡ untouched s
  either s t u true left right = left
  either s t u false left right = right

module _ {N : Type 0} (same : N → N → Bool) where
  enqueued-untouched : (h : N) (frame : List ℕ) (s : SceneOf N) → untouched (enqueued same h frame s) ≡ untouched s
  unfolding enqueued on_link
  enqueued-untouched h frame s = refl

  sent-untouched : (h : N) (frame : List ℕ) (s : SceneOf N) → untouched (sent same h frame s) ≡ untouched s
  unfolding sent
  sent-untouched h frame s = by (link_of same h s)
    where
      by : (l : LinkOf N) → untouched (sent_by same l h frame s) ≡ untouched s
      by l = either s (lost tally.Link 1 s) (cond (is_link_full l) (lost tally.Full 1 s) (enqueued same h frame s)) (not l.up) (lost-untouched tally.Link 1 s)
          (either s (lost tally.Full 1 s) (enqueued same h frame s) (is_link_full l) (lost-untouched tally.Full 1 s) (enqueued-untouched h frame s))

  requested-untouched : (h : N) (ip : Ip4) (s : SceneOf N) → untouched (requested same h ip s) ≡ untouched s
  unfolding requested
  requested-untouched h ip s = sent-untouched h _ s

  held_parts-untouched : (now : ℕ) (h : N) (ip : Ip4) (datagram : List ℕ) (s : SceneOf N) → untouched (on_parts (after_hold same now h ip datagram) s) ≡ untouched s
  unfolding after_hold
  held_parts-untouched now h ip datagram s = by (asks same h ip s.parts.arp)
    where
      by : (b : Bool) → bare (cond b (timed_entry same (now + request_time) h ip (holding datagram) s.parts) (record s.parts { arp = with_entry same h ip (holding datagram) s.parts.arp })) ≡ untouched s
      by true = refl
      by false = refl

  held-untouched : (common : Common) (h : N) (ip : Ip4) (datagram : List ℕ) (s : SceneOf N) → untouched (held same common h ip datagram s) ≡ untouched s
  unfolding held
  held-untouched common h ip datagram s =
      either lossy (requested same h ip lossy) lossy (asks same h ip s.parts.arp) (requested-untouched h ip lossy) refl
      ∙ either waiting (lost tally.Full 1 waiting) waiting (drops_oldest same h ip s.parts.arp) (lost-untouched tally.Full 1 waiting) refl
      ∙ held_parts-untouched common.clock h ip datagram s
    where
      waiting : SceneOf N
      waiting = on_parts (after_hold same common.clock h ip datagram) s

      lossy : SceneOf N
      lossy = lost_if (drops_oldest same h ip s.parts.arp) tally.Full waiting

  carried-untouched : (common : Common) (h : N) (ip : Ip4) (datagram : List ℕ) (s : SceneOf N) → untouched (carried same common h ip datagram s) ≡ untouched s
  unfolding carried sent_datagram
  carried-untouched common h ip datagram s = by (hit same h ip s.parts.arp)
    where
      by : (o : Option Mac) → untouched (carried_by same o common h ip datagram s) ≡ untouched s
      by None = held-untouched common h ip datagram s
      by (Some mac) = sent-untouched h _ s

  sent_along-untouched : (w : WayOf N) (common : Common) (datagram : List ℕ) (s : SceneOf N) → untouched (sent_along same w common datagram s) ≡ untouched s
  sent_along-untouched Nowhere common datagram s = refl
  sent_along-untouched Looped common datagram s = refl
  sent_along-untouched (By h hop) common datagram s = carried-untouched common h hop datagram s

  pub output_left-untouched : (common : Common) (send : Outgoing) (s : SceneOf N) → untouched (output_left same common send s) ≡ untouched s
  unfolding output_left
  output_left-untouched common send s = sent_along-untouched (way_to send.dst s.parts) common (next_datagram same send s.parts) (on_parts identified s)

  pub output_left-addresses : (common : Common) (send : Outgoing) (s : SceneOf N) → (output_left same common send s).parts.addresses ≡ s.parts.addresses
  output_left-addresses common send s = ap (λ (p : PartsOf N). p.addresses) (output_left-untouched common send s)

  pub output_left-sockets : (common : Common) (send : Outgoing) (s : SceneOf N) → (output_left same common send s).parts.sockets ≡ s.parts.sockets
  output_left-sockets common send s = ap (λ (p : PartsOf N). p.sockets) (output_left-untouched common send s)
