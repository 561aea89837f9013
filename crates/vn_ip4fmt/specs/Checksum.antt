-- The checksum of a header, and a header whose TTL is lowered.
use Rattle.std.specs.Prelude.{ℕ, ◌-◌, List, ◌++◌, take, drop, slice_set}
use Rattle.byteorder.specs.Endian.{big_bytes}
use Rattle.vn_cksum.specs.Sums.{sum_of, complement}
use Rattle.vn_types.specs.Ip4Header.{header_of, header_len}

-- a header with that number in the field of its checksum
abbrev pub with_checksum : ℕ → List ℕ → List ℕ
with_checksum checksum xs = take 10 xs ++ (big_bytes 2 checksum ++ drop 12 xs)

-- a header with its checksum anew: the complement of the sum of its words, of which the checksum counts as 0
abbrev pub renewed : List ℕ → List ℕ
renewed header = with_checksum (complement (sum_of (with_checksum 0 header))) header

-- a datagram with a TTL that is one less, and its header's checksum anew
abbrev pub lowered : List ℕ → List ℕ
lowered xs =
    renewed (slice_set (take (header_len xs) xs) 8 ((header_of xs).ttl - 1))
    ++ drop (header_len xs) xs
