-- A frame's octets are its header and its payload.
use Rattle.std.proofs.Common.{◌≡◌, ℕ, ◌<◌, ◌≤◌, ◌^◌, false, nat_lt, List, ◌++◌, length, drop, Ok, refl, ap, ◌∙◌, arith}
use Rattle.std.proofs.lemmas.Bool.Decides.{nat_tests}
use Rattle.std.proofs.lemmas.List.{take-append-drop}
use Rattle.vn_types.specs.Fields.{AreOctets, spelled}
use Rattle.vn_types.specs.declared.address.Mac.{Mac}
use Rattle.vn_types.proofs.FieldLaws.{IsFormat, reads-back, spells}
use Rattle.vn_link.specs.Macs.{IsMac, mac_of, number_of}
use Rattle.vn_link.specs.Frames.{Header, EthFrame, ethernet_header, eth_header, eth_of, frame_in, frame_of, header_for, header_of}
use Rattle.vn_link.proofs.MacLaws.{mac-below, mac-number, number-below, number-mac}

pub is_format : IsFormat ethernet_header
is_format = record { whole = refl; same_widths = λ value. refl; same_value = λ value. refl; same_values = λ xs. refl }

same-header : (h : Header) → h.destination < 2 ^ 48 → h.source < 2 ^ 48
    → header_for (mac_of h.destination) (mac_of h.source) h.type_code ≡ h
same-header h first second = rw (number-mac h.destination first, number-mac h.source second) refl

pub frame-spelled : (xs : List ℕ) → 14 ≤ length xs → AreOctets xs
    → eth_header (frame_of xs).dst (frame_of xs).src (frame_of xs).kind ++ (frame_of xs).payload ≡ xs
frame-spelled xs long octets =
    ap (λ h. spelled ethernet_header h ++ drop 14 xs) (same-header (header_of xs) (number-below 0 xs octets) (number-below 6 xs octets))
    ∙ ap (λ ys. ys ++ drop 14 xs) (spells ethernet_header is_format xs octets long)
    ∙ take-append-drop 14 xs

abbrev the_frame : Mac → Mac → ℕ → List ℕ → EthFrame
the_frame dst src kind payload = record { dst = dst; src = src; kind = kind; payload = payload }

pub eth_of-header : (dst src : Mac) (kind : ℕ) (payload : List ℕ) → IsMac dst → IsMac src → kind < 65536
    → eth_of (eth_header dst src kind ++ payload) ≡ Ok (record { dst = dst; src = src; kind = kind; payload = payload })
eth_of-header dst src kind payload is is' small =
    let long : nat_lt (length (eth_header dst src kind ++ payload)) 14 ≡ false = grind (arith, nat_tests) in
    let back = reads-back ethernet_header is_format (header_for dst src kind) payload (mac-below dst is, (mac-below src is', (small, tt))) in
    rw long
    (ap (λ h. Ok (frame_in h payload)) back
    ∙ ap (λ mac. Ok (the_frame mac (mac_of (number_of src)) kind payload)) (mac-number dst is)
    ∙ ap (λ mac. Ok (the_frame dst mac kind payload)) (mac-number src is'))
