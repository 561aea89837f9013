-- Which octets are an ICMP message, and why others are refused (RFC 792).
use Rattle.std.specs.Prelude.{◌≡◌, ℕ, ◌≤◌, ◌==◌, not, nat_lt, List, [], ◌∷◌, length, Option, Result}
use Rattle.vn_types.specs.Refusals.{first_refusal, unless}
use Rattle.vn_cksum.specs.Sums.{sum_of}
use Rattle.vn_icmpfmt.specs.declared.message.IcmpBad.{IcmpBad}
use Rattle.vn_icmpfmt.specs.declared.message.IcmpBad.TheVariants as bad
use Rattle.vn_icmpfmt.specs.Messages.{Message, header_size, message_of}

-- a message, of any length that holds its first eight octets
pub record IsMessage (xs : List ℕ) : Type 0 where
  -- it holds a header
  pub long_enough : header_size ≤ length xs
  -- the checksum is right
  pub sums_up : sum_of xs ≡ 65535

-- the first refusal that applies
abbrev pub refusal : List ℕ → Option IcmpBad
refusal xs = first_refusal (
    (nat_lt (length xs) header_size, bad.Short)
    ∷ (not (sum_of xs == 65535), bad.Checksum)
    ∷ [])

-- the message that is read of octets
abbrev pub icmp_of : List ℕ → Result Message IcmpBad
icmp_of xs = unless (refusal xs) (message_of xs)
