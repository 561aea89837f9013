-- `udp`: the words behind it.
use Rattle.std.specs.Prelude.{ℕ, ◌&&◌, nat_le, List, [], ◌∷◌, length, codes, if◌then◌else◌, Option, Some, None}
use Rattle.std.specs.Option.{option_map, option_map_or}
use Rattle.std.specs.Result.{result_ok}
use Rattle.std.specs.Str.{bytes_eq}
use Rattle.hex.specs.Hex.{decode_of}
use Rattle.vn_types.specs.declared.address.Ip4.{Ip4}
use Rattle.vn_types.specs.AddressWords.{ip4_of}
use Rattle.vn_types.specs.NameWords.{sock_name_of}
use Rattle.vn_types.specs.NumberWords.{number_of}
use Rattle.vn_types.specs.Steps.{◌>>=◌}
use Rattle.vn_cells.specs.declared.command.Command.{Command}
use Rattle.vn_cells.specs.declared.command.Command.TheVariants as command
use Rattle.vn_cells.specs.declared.command.Payload.{Payload}
use Rattle.vn_cells.specs.declared.command.Payload.TheVariants as payload
use Rattle.vn_shell.specs.declared.command.udp.TheConstants.{DIGITS_MAX, ZEROS_MAX}
use Rattle.vn_shell.specs.Words.{such_that, behind, port_of, ttl_of, at_end, of_one, of_two}

-- 2 to 4,096 hexadecimal digits, an even number of them
unfoldable pub digits_of : List ℕ → Option Payload
digits_of word =
    if nat_le 2 (length word) && nat_le (length word) DIGITS_MAX
    then option_map payload.Digits (result_ok (decode_of word))
    else None

-- a number up to 20,000
unfoldable pub zeros_of : List ℕ → Option Payload
zeros_of text =
    option_map payload.Zero (number_of text >>= such_that (λ number. nat_le number ZEROS_MAX))

-- `zero:` and how many, or digits
unfoldable pub payload_of : List ℕ → Option Payload
payload_of word = option_map_or zeros_of (behind (codes "zero:") word) (digits_of word)

-- an address, or `*` for none
abbrev pub any_ip_of : List ℕ → Option (Option Ip4)
any_ip_of word = if bytes_eq word (codes "*") then Some None else option_map Some (ip4_of word)

-- `IP PORT`, where IP may be `*`
abbrev pub bind_of : List ℕ → List (List ℕ) → Option Command
bind_of sock words = of_two any_ip_of port_of (command.UdpBind sock) words

-- an address and a port
abbrev pub endpoint : Ip4 → ℕ → Ip4 × ℕ
endpoint ip port = (ip, port)

-- `IP PORT`
abbrev pub endpoint_of : List (List ℕ) → Option (Ip4 × ℕ)
endpoint_of words = of_two ip4_of port_of endpoint words

-- the command that gives a socket its peer
abbrev pub connecting : List ℕ → Ip4 × ℕ → Command
connecting sock to = command.UdpConnect sock to.0 to.1

-- `[IP PORT]`
unfoldable pub peer_of : List (List ℕ) → Option (Option (Ip4 × ℕ))
peer_of [] = Some None
peer_of (word ∷ words) = option_map Some (endpoint_of (word ∷ words))

-- `DATA [IP PORT]`
unfoldable pub send_of : List ℕ → List (List ℕ) → Option Command
send_of sock [] = None
send_of sock (word ∷ words) = do
  payload ← payload_of word
  to ← peer_of words
  Some (command.UdpSend sock payload to)

-- `N`
abbrev pub limit_of : List ℕ → List (List ℕ) → Option Command
limit_of sock words = of_one ttl_of (command.UdpTtl sock) words

-- what is done to a socket
unfoldable pub socket_of : List ℕ → List ℕ → List (List ℕ) → Option Command
socket_of sock verb words =
    if bytes_eq verb (codes "open") then at_end words (Some (command.UdpOpen sock))
    else if bytes_eq verb (codes "recv") then at_end words (Some (command.UdpRecv sock))
    else if bytes_eq verb (codes "close") then at_end words (Some (command.UdpClose sock))
    else if bytes_eq verb (codes "bind") then bind_of sock words
    else if bytes_eq verb (codes "connect") then option_map (connecting sock) (endpoint_of words)
    else if bytes_eq verb (codes "send") then send_of sock words
    else if bytes_eq verb (codes "ttl") then limit_of sock words
    else None

-- a word, a socket and what that word wants
unfoldable pub udp_of : List (List ℕ) → Option Command
udp_of (verb ∷ sock ∷ words) = sock_name_of sock >>= λ sock. socket_of sock verb words
udp_of _ = None
