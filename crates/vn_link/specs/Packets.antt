-- An ARP packet about Ethernet and IPv4 (RFC 826, "Packet format"; its field names have `$` for `_`).
use Rattle.std.specs.Prelude.{◌≡◌, ℕ, ◌≤◌, ◌⊎◌, Bool, not, ◌&&◌, ◌==◌, List, [], ◌∷◌, length, nat_lt, slice_index, Option, Result}
use Rattle.vn_types.specs.Fields.{Format, read, size, spelled}
use Rattle.vn_types.specs.Refusals.{first_refusal, unless}
use Rattle.vn_link.specs.declared.arp.TheConstants.{ETHERNET, IPV4, MAC_OCTETS, IP4_OCTETS, REQUEST, REPLY}
use Rattle.vn_link.specs.declared.arp.ArpBad.{ArpBad}
use Rattle.vn_link.specs.declared.arp.ArpBad.TheVariants as bad
use Rattle.vn_link.specs.declared.arp.ArpPacket.{ArpPacket}
use Rattle.vn_link.specs.Macs.{mac_of, number_of}

-- what the fields hold: which hardware, which protocol, the octets of their addresses, the operation, both
-- addresses of the sender, both addresses of the target
pub record Fields : Type 0 where
  pub ar_hrd : ℕ
  pub ar_pro : ℕ
  pub ar_hln : ℕ
  pub ar_pln : ℕ
  pub ar_op : ℕ
  pub ar_sha : ℕ
  pub ar_spa : ℕ
  pub ar_tha : ℕ
  pub ar_tpa : ℕ

-- the fields in wire order
abbrev pub fields : Fields → List (ℕ × ℕ)
fields f =
    (16, f.ar_hrd) ∷ (16, f.ar_pro) ∷ (8, f.ar_hln) ∷ (8, f.ar_pln) ∷ (16, f.ar_op)
    ∷ (48, f.ar_sha) ∷ (32, f.ar_spa)
    ∷ (48, f.ar_tha) ∷ (32, f.ar_tpa)
    ∷ []

-- the fields with these values
abbrev pub fields_with : List ℕ → Fields
fields_with values = record {
  ar_hrd = slice_index values 0;
  ar_pro = slice_index values 1;
  ar_hln = slice_index values 2;
  ar_pln = slice_index values 3;
  ar_op = slice_index values 4;
  ar_sha = slice_index values 5;
  ar_spa = slice_index values 6;
  ar_tha = slice_index values 7;
  ar_tpa = slice_index values 8;
}

-- the packet as a format
abbrev pub arp_format : Format Fields
arp_format = record { fields = fields; of_values = fields_with }

-- how many octets a packet has; others, with
-- which a frame is filled up, may follow
abbrev pub packet_size : ℕ
packet_size = size arp_format

-- the fields that octets spell
abbrev pub fields_of : List ℕ → Fields
fields_of octets = read arp_format octets

-- the packet with these fields
abbrev pub packet_in : Fields → ArpPacket
packet_in f = record {
  op = f.ar_op;
  sha = mac_of f.ar_sha;
  spa = record { 0 = f.ar_spa };
  tha = mac_of f.ar_tha;
  tpa = record { 0 = f.ar_tpa };
}

-- the packet that octets spell
abbrev pub packet_of : List ℕ → ArpPacket
packet_of octets = packet_in (fields_of octets)

-- a packet of Ethernet and IPv4 that is a request or a reply, and whatever stands behind it
pub record IsPacket (octets : List ℕ) : Type 0 where
  pub long_enough : packet_size ≤ length octets
  pub is_of_ethernet : (fields_of octets).ar_hrd ≡ ETHERNET
  pub is_of_ipv4 : (fields_of octets).ar_pro ≡ IPV4
  pub has_hardware_length : (fields_of octets).ar_hln ≡ MAC_OCTETS
  pub has_protocol_length : (fields_of octets).ar_pln ≡ IP4_OCTETS
  pub is_request_or_reply : ((fields_of octets).ar_op ≡ REQUEST) ⊎ ((fields_of octets).ar_op ≡ REPLY)

-- what refuses octets, in the order of the tests
abbrev pub arp_refusals : List ℕ → List (Bool × ArpBad)
arp_refusals octets =
    (nat_lt (length octets) packet_size, bad.Short)
    ∷ (not ((fields_of octets).ar_hrd == ETHERNET), bad.Hrd)
    ∷ (not ((fields_of octets).ar_pro == IPV4), bad.Pro)
    ∷ (not ((fields_of octets).ar_hln == MAC_OCTETS), bad.Hln)
    ∷ (not ((fields_of octets).ar_pln == IP4_OCTETS), bad.Pln)
    ∷ (not ((fields_of octets).ar_op == REQUEST) && not ((fields_of octets).ar_op == REPLY), bad.Op)
    ∷ []

-- the first refusal that applies
abbrev pub arp_refusal : List ℕ → Option ArpBad
arp_refusal octets = first_refusal (arp_refusals octets)

-- the packet that is read of octets
abbrev pub arp_of : List ℕ → Result ArpPacket ArpBad
arp_of octets = unless (arp_refusal octets) (packet_of octets)

-- the fields of a packet
abbrev pub fields_for : ArpPacket → Fields
fields_for p = record {
  ar_hrd = ETHERNET;
  ar_pro = IPV4;
  ar_hln = MAC_OCTETS;
  ar_pln = IP4_OCTETS;
  ar_op = p.op;
  ar_sha = number_of p.sha;
  ar_spa = p.spa.0;
  ar_tha = number_of p.tha;
  ar_tpa = p.tpa.0;
}

-- the octets of a packet
abbrev pub arp_octets : ArpPacket → List ℕ
arp_octets p = spelled arp_format (fields_for p)
