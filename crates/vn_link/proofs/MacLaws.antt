-- An address and its number.
use Rattle.std.proofs.Common.{◌≡◌, ◌<◌, ◌^◌, ℕ, List, [], sym, ap, ◌∙◌}
use Rattle.std.proofs.lemmas.List.{append-nil}
use Rattle.byteorder.specs.Endian.{big_bytes, big_from}
use Rattle.byteorder.specs.Numbers.{big_from-lt, big_number-reads_back}
use Rattle.vn_types.specs.Fields.{AreOctets}
use Rattle.vn_types.specs.declared.address.Mac.{Mac}
use Rattle.vn_types.proofs.OctetNumbers.{bytes-number, octet_at}
use Rattle.vn_link.specs.Macs.{IsMac, number_of, mac_of}

pub number-below : (i : ℕ) (xs : List ℕ) → AreOctets xs → big_from i 6 xs < 2 ^ 48
number-below i xs octets = big_from-lt i 6 xs (octet_at xs octets)

pub mac-below : (mac : Mac) → IsMac mac → number_of mac < 2 ^ 48
unfolding number_of
mac-below mac is = number-below 0 mac.0 is.octets

pub bytes-mac : (mac : Mac) → IsMac mac → big_bytes 6 (number_of mac) ≡ mac.0
unfolding number_of
bytes-mac mac is = bytes-number 6 mac.0 is.octets is.len

pub mac-number : (mac : Mac) → IsMac mac → mac_of (number_of mac) ≡ mac
unfolding mac_of
mac-number mac is = ap (λ (xs : List ℕ). record { 0 = xs }) (bytes-mac mac is)

pub number-mac : (number : ℕ) → number < 2 ^ 48 → number_of (mac_of number) ≡ number
unfolding number_of mac_of
number-mac number below =
    ap (big_from 0 6) (sym (append-nil (big_bytes 6 number))) ∙ big_number-reads_back 6 number [] below
