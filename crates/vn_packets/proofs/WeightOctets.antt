-- What frames and datagrams that a stack sends weigh.
use Rattle.std.proofs.Common.{◌≡◌, ℕ, zero, suc, ◌+◌, ◌-◌, ◌*◌, ◌<◌, ◌≤◌, Bool, true, false, cond, not, ◌&&◌, ◌||◌, ◌==◌, nat_lt, List, [], ◌∷◌, ◌++◌, length, take, drop, set, get_or, slice_get, slice_index, Option, Some, None, is_none, is_some, ◌⊎◌, inl, inr, le_of_eq, le_trans, refl, sym, ap, ◌∙◌, arith}
use Rattle.std.proofs.lemmas.Bool.{or_parts, ltb-false}
use Rattle.std.proofs.lemmas.Bool.Decides.{nat_tests}
use Rattle.std.proofs.lemmas.List.{get_or-take, get_or_append_left, get_or-set_same, length-set, length-take-le, drop_at}
use Rattle.vn_types.specs.declared.address.Ip4.{Ip4}
use Rattle.vn_types.specs.declared.address.Mac.{Mac}
use Rattle.vn_types.specs.Ip4Header.{header_of, header_len}
use Rattle.vn_cksum.specs.Sums.{sum_of}
use Rattle.vn_rules.specs.Errors.{icmp_protocol}
use Rattle.vn_ip4fmt.specs.Checksum.{renewed, lowered}
use Rattle.vn_ip4fmt.specs.Datagram.{refusal}
use Rattle.vn_ip4fmt.proofs.Renewing.{length-with, place-with, place-relived}
use Rattle.vn_icmpfmt.specs.Messages.{echo}
use Rattle.vn_link.specs.declared.arp.ArpPacket.{ArpPacket}
use Rattle.vn_link.specs.Frames as frames
use Rattle.vn_link.specs.Frames.{eth_header}
use Rattle.vn_link.specs.Packets.{arp_octets, arp_refusal, packet_of}
use Rattle.vn_packets.specs.ArpPackets.{request_op, reply, arp_frame}
use Rattle.vn_packets.specs.Datagrams.{ip4_type, arp_type, frame_with, datagram_with, message_octets, error_octets, reads, whole, body_of}
use Rattle.vn_packets.specs.Errors.{Trouble, HostUnreachable, ProtocolUnreachable, PortUnreachable, TimeExceeded, error_about, icmp_answer}
use Rattle.vn_packets.specs.Weight.{message_weight, body_weight, datagram_weight, is_request, packet_weight, frame_weight}

-- ---- frames

long : (dst src : Mac) (type : ℕ) (payload : List ℕ) → nat_lt (length (eth_header dst src type ++ payload)) 14 ≡ false
long dst src type payload = grind (arith, nat_tests)

pub datagram-frame : (dst src : Mac) (datagram : List ℕ) → frame_weight (frame_with dst src ip4_type datagram) ≡ datagram_weight datagram
unfolding frame_weight frame_with
datagram-frame dst src datagram = rw (long dst src ip4_type datagram) refl

packet-frame : (dst src : Mac) (packet : List ℕ) → frame_weight (frame_with dst src arp_type packet) ≡ packet_weight packet
unfolding frame_weight frame_with
packet-frame dst src packet = rw (long dst src arp_type packet) refl

packet-most : (octets : List ℕ) → packet_weight octets ≤ 2
packet-most octets = by (is_request octets)
  where
    by : (b : Bool) → cond {A = ℕ} b 2 1 ≤ 2
    by true = omega arith
    by false = omega arith

pub arp-most : (to : Mac) (packet : ArpPacket) → frame_weight (arp_frame to packet) ≤ 2
arp-most to packet = rw (packet-frame to packet.sha (arp_octets packet)) (packet-most (arp_octets packet))

-- a reply brings about nothing
pub reply-one : (to mac : Mac) (packet : ArpPacket) → frame_weight (arp_frame to (reply mac packet)) ≡ 1
reply-one to mac packet = packet-frame to mac (arp_octets (reply mac packet)) ∙ by (is_none (arp_refusal (arp_octets (reply mac packet))))
  where
    by : (b : Bool) → cond {A = ℕ} (b && ((packet_of (arp_octets (reply mac packet))).op == request_op)) 2 1 ≡ 1
    by true = refl
    by false = refl

-- ---- each weighs something

pub message-some : (o : Option ℕ) → 1 ≤ message_weight o
message-some None = omega arith
message-some (Some kind) = by (kind == 8) (kind == 0)
  where
    by : (b c : Bool) → 1 ≤ cond {A = ℕ} b 521 (cond c 261 1)
    by true c = omega arith
    by false true = omega arith
    by false false = omega arith

pub body-some : (proto : ℕ) (body : List ℕ) → 1 ≤ body_weight proto body
body-some proto body = by (proto == icmp_protocol)
  where
    by : (b : Bool) → 1 ≤ cond b (message_weight (slice_get body 0)) 261
    by true = message-some (slice_get body 0)
    by false = omega arith

pub datagram-some : (octets : List ℕ) → 1 ≤ datagram_weight octets
unfolding datagram_weight
datagram-some octets = by (reads octets)
  where
    by : (b : Bool) → 1 ≤ cond b (4 * (header_of octets).ttl + body_weight (header_of octets).proto (body_of (whole octets))) 1
    by true = let some = body-some (header_of octets).proto (body_of (whole octets)) in omega (arith, some)
    by false = omega arith

pub frame-some : (frame : List ℕ) → 1 ≤ frame_weight frame
unfolding frame_weight
frame-some frame = by (nat_lt (length frame) frames.header_size) ((frames.header_of frame).type_code == ip4_type) ((frames.header_of frame).type_code == arp_type)
  where
    payload : List ℕ
    payload = drop frames.header_size frame

    packet : (b : Bool) → 1 ≤ cond {A = ℕ} b 2 1
    packet true = omega arith
    packet false = omega arith

    by : (a b c : Bool) → 1 ≤ cond a 1 (cond b (datagram_weight payload) (cond c (packet_weight payload) 1))
    by true b c = omega arith
    by false true c = datagram-some payload
    by false false true = packet (is_request payload)
    by false false false = omega arith

-- ---- fields by their octets

ttl-at : (xs ys : List ℕ) → slice_index xs 8 ≡ slice_index ys 8 → (header_of xs).ttl ≡ (header_of ys).ttl
ttl-at xs ys same = rw same refl

proto-at : (xs ys : List ℕ) → slice_index xs 9 ≡ slice_index ys 9 → (header_of xs).proto ≡ (header_of ys).proto
proto-at xs ys same = rw same refl

len-at : (xs ys : List ℕ) → slice_index xs 0 ≡ slice_index ys 0 → header_len xs ≡ header_len ys
len-at xs ys same = rw same refl

taken-at : (n : ℕ) (xs : List ℕ) (k : ℕ) → k < n → slice_index (take n xs) k ≡ slice_index xs k
taken-at n xs k less = get_or-take n xs k 0 less

-- ---- what stands behind a header, and is cut off

nothing : (k : ℕ) → slice_get {X = ℕ} (drop k []) 0 ≡ None
nothing zero = refl
nothing (suc k) = refl

first-cut : (k n : ℕ) (ys : List ℕ) → (slice_get (drop k (take n ys)) 0 ≡ None) ⊎ (slice_get (drop k (take n ys)) 0 ≡ slice_get (drop k ys) 0)
first-cut k zero ys = inl (nothing k)
first-cut zero (suc n) [] = inl refl
first-cut (suc k) (suc n) [] = inl refl
first-cut zero (suc n) (y ∷ ys) = inr refl
first-cut (suc k) (suc n) (y ∷ ys) = first-cut k n ys

body-cut : (proto k n : ℕ) (ys : List ℕ) → body_weight proto (drop k (take n ys)) ≤ body_weight proto (drop k ys)
body-cut proto k n ys = by (proto == icmp_protocol)
  where
    first : (slice_get (drop k (take n ys)) 0 ≡ None) ⊎ (slice_get (drop k (take n ys)) 0 ≡ slice_get (drop k ys) 0)
        → message_weight (slice_get (drop k (take n ys)) 0) ≤ message_weight (slice_get (drop k ys) 0)
    first (inl none) = rw none (message-some (slice_get (drop k ys) 0))
    first (inr same) = le_of_eq (ap message_weight same)

    by : (b : Bool) → cond b (message_weight (slice_get (drop k (take n ys)) 0)) 261 ≤ cond b (message_weight (slice_get (drop k ys) 0)) 261
    by true = first (first-cut k n ys)
    by false = omega arith

-- ---- a datagram that reads

pub record ReadFacts (xs : List ℕ) : Type 0 where
  pub header : 20 ≤ header_len xs
  pub fits : header_len xs ≤ length xs
  pub total : 20 ≤ (header_of xs).total
  pub holds : header_len xs ≤ (header_of xs).total
  pub is_whole : (header_of xs).total ≤ length xs

none-from : {E : Type 0} (o : Option E) → not (is_some o) ≡ true → o ≡ None
none-from None is = refl
none-from (Some e) is = absurd (cc)

clear : {E : Type 0} (b : Bool) (e : E) (o : Option E) → cond b (Some e) o ≡ None → (b ≡ false) × (o ≡ None)
clear true e o none = absurd (cc)
clear false e o none = (refl, none)

pub read-facts : (xs : List ℕ) → reads xs ≡ true → ReadFacts xs
read-facts xs is =
    let c1 = clear (nat_lt (length xs) 20) _ _ (none-from (refusal xs) is) in
    let c2 = clear (not ((header_of xs).version == 4)) _ _ c1.1 in
    let c3 = clear (nat_lt (header_of xs).ihl 5 || nat_lt (length xs) (header_len xs)) _ _ c2.1 in
    let c4 = clear (not (sum_of (take (header_len xs) xs) == 65535)) _ _ c3.1 in
    let c5 = clear (nat_lt (header_of xs).total (header_len xs) || nat_lt (length xs) (header_of xs).total) _ _ c4.1 in
    let words = or_parts (nat_lt (header_of xs).ihl 5) (nat_lt (length xs) (header_len xs)) c3.0 in
    let told = or_parts (nat_lt (header_of xs).total (header_len xs)) (nat_lt (length xs) (header_of xs).total) c5.0 in
    let five : 5 ≤ (header_of xs).ihl = ltb-false (header_of xs).ihl 5 words.0 in
    let within : header_len xs ≤ length xs = ltb-false (length xs) (header_len xs) words.1 in
    let holds : header_len xs ≤ (header_of xs).total = ltb-false (header_of xs).total (header_len xs) told.0 in
    record { header = omega (arith, five); fits = within; total = omega (arith, five, holds); holds = holds; is_whole = ltb-false (length xs) (header_of xs).total told.1 }

-- of a whole datagram
abbrev pub whole_weight : List ℕ → ℕ
whole_weight d = 4 * (header_of d).ttl + body_weight (header_of d).proto (body_of d)

pub whole-weight : (xs : List ℕ) → reads xs ≡ true → datagram_weight xs ≡ whole_weight (whole xs)
unfolding datagram_weight whole
whole-weight xs is =
    let f = read-facts xs is in
    let n = (header_of xs).total in
    ap (λ b. cond b (4 * (header_of xs).ttl + body_weight (header_of xs).proto (body_of (take n xs))) 1) is
    ∙ (λ i. 4 * sym (ttl-at (take n xs) xs (taken-at n xs 8 (omega (arith, f.total)))) i
    + body_weight (sym (proto-at (take n xs) xs (taken-at n xs 9 (omega (arith, f.total)))) i) (body_of (take n xs)))

-- a whole datagram holds its header
pub whole-header : (xs : List ℕ) → reads xs ≡ true → (20 ≤ header_len (whole xs)) × (header_len (whole xs) ≤ length (whole xs))
unfolding whole
whole-header xs is =
    let f = read-facts xs is in
    let n = (header_of xs).total in
    let same : header_len (take n xs) ≡ header_len xs = len-at (take n xs) xs (taken-at n xs 0 (omega (arith, f.total))) in
    let long : length (take n xs) ≡ n = length-take-le n xs f.is_whole in
    (omega (arith, same, f.header), omega (arith, same, long, f.holds))

unread-weight : (xs : List ℕ) → reads xs ≡ false → datagram_weight xs ≡ 1
unfolding datagram_weight
unread-weight xs is = ap (λ b. cond b (4 * (header_of xs).ttl + body_weight (header_of xs).proto (body_of (whole xs))) 1) is

bounded : (xs : List ℕ) (w : ℕ) → (reads xs ≡ true → whole_weight (whole xs) ≤ w) → 1 ≤ w → datagram_weight xs ≤ w
bounded xs w most some = by (reads xs) refl
  where
    by : (b : Bool) → reads xs ≡ b → datagram_weight xs ≤ w
    by true is = rw (whole-weight xs is) (most is)
    by false is = rw (unread-weight xs is) some

-- by what its octets tell, uncut
whole-most : (xs : List ℕ) (hl t p : ℕ) → reads xs ≡ true → (header_of xs).ttl ≡ t → (header_of xs).proto ≡ p → header_len xs ≡ hl
    → whole_weight (whole xs) ≤ 4 * t + body_weight p (drop hl xs)
unfolding whole body_of
whole-most xs hl t p is ttl proto len =
    let f = read-facts xs is in
    let n = (header_of xs).total in
    let ttl' : (header_of (take n xs)).ttl ≡ t = ttl-at (take n xs) xs (taken-at n xs 8 (omega (arith, f.total))) ∙ ttl in
    let proto' : (header_of (take n xs)).proto ≡ p = proto-at (take n xs) xs (taken-at n xs 9 (omega (arith, f.total))) ∙ proto in
    let len' : header_len (take n xs) ≡ hl = len-at (take n xs) xs (taken-at n xs 0 (omega (arith, f.total))) ∙ len in
    let same : 4 * (header_of (take n xs)).ttl + body_weight (header_of (take n xs)).proto (drop (header_len (take n xs)) (take n xs)) ≡ 4 * t + body_weight p (drop hl (take n xs)) =
    λ i. 4 * ttl' i + body_weight (proto' i) (drop (len' i) (take n xs)) in
    let cut = body-cut p hl n xs in
    le_trans (le_of_eq same) (omega (arith, cut))

-- ---- datagrams that are sent

pub answer-weight : (id : ℕ) (src from to : Ip4) (message : List ℕ) → datagram_weight (datagram_with id src (icmp_answer from to message)) ≤ 256 + message_weight (slice_get message 0)
unfolding datagram_with
answer-weight id src from to message =
    bounded (datagram_with id src (icmp_answer from to message)) (256 + message_weight (slice_get message 0))
    (λ is. whole-most (datagram_with id src (icmp_answer from to message)) 20 64 1 is refl refl refl) (omega arith)

pub error-one : (trouble : Trouble) (datagram : List ℕ) → message_weight (slice_get (error_about trouble datagram) 0) ≡ 1
unfolding error_octets
error-one HostUnreachable datagram = refl
error-one ProtocolUnreachable datagram = refl
error-one PortUnreachable datagram = refl
error-one TimeExceeded datagram = refl

pub echo-reply : (id seq : ℕ) (rest : List ℕ) → message_weight (slice_get (message_octets (echo 0 id seq rest)) 0) ≡ 261
unfolding message_octets
echo-reply id seq rest = refl

module _ (d : List ℕ) (header : 20 ≤ header_len d) (fits : header_len d ≤ length d) (ttl : ℕ) where
  -- its header, with that time to live
  abbrev relived : List ℕ
  relived = set (take (header_len d) d) 8 ttl

  taken-long : length (take (header_len d) d) ≡ header_len d
  taken-long = length-take-le (header_len d) d fits

  relived-long : length relived ≡ header_len d
  relived-long = length-set (take (header_len d) d) 8 ttl ∙ taken-long

  renewed-long : length (renewed relived) ≡ header_len d
  renewed-long = length-with _ relived (omega (arith, relived-long)) ∙ relived-long

  ttl-octet : get_or (renewed relived ++ drop (header_len d) d) 8 0 ≡ ttl
  ttl-octet =
      get_or_append_left (renewed relived) (drop (header_len d) d) 0 8 (omega (arith, renewed-long))
      ∙ place-with _ relived 8 (omega (arith, relived-long)) (omega arith) (omega arith)
      ∙ get_or-set_same (take (header_len d) d) 8 ttl 0 (omega (arith, taken-long))

  rest-same : drop (header_len d) (renewed relived ++ drop (header_len d) d) ≡ drop (header_len d) d
  rest-same = drop_at (renewed relived) (drop (header_len d) d) (header_len d) renewed-long

  relived-most : reads (renewed relived ++ drop (header_len d) d) ≡ true → whole_weight (whole (renewed relived ++ drop (header_len d) d)) ≤ 4 * ttl + body_weight (header_of d).proto (drop (header_len d) d)
  relived-most is =
      let xs = renewed relived ++ drop (header_len d) d in
      let told : (header_of xs).ttl ≡ ttl = omega (arith, ttl-octet) in
      let most = whole-most xs (header_len d) ttl (header_of d).proto is told
      (proto-at xs d (place-relived (header_len d) ttl d 9 (omega arith) fits (omega arith) (omega arith) (omega arith)))
      (len-at xs d (place-relived (header_len d) ttl d 0 (omega arith) fits (omega arith) (omega arith) (omega arith))) in
      le_trans most (le_of_eq (ap (λ ys. 4 * ttl + body_weight (header_of d).proto ys) rest-same))

pub lowered-weight : (d : List ℕ) → 20 ≤ header_len d → header_len d ≤ length d → 2 ≤ (header_of d).ttl → datagram_weight (lowered d) + 4 ≤ whole_weight d
unfolding body_of
lowered-weight d header fits alive =
    let some = body-some (header_of d).proto (drop (header_len d) d) in
    let most = bounded (lowered d) (4 * ((header_of d).ttl - 1) + body_weight (header_of d).proto (drop (header_len d) d)) (relived-most d header fits ((header_of d).ttl - 1)) (omega (arith, some)) in
    omega (arith, most, alive)
