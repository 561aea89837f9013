-- What words ask for: within its bounds at each path that has room.
use Rattle.std.proofs.Common.{◌≡◌, ◌+◌, true, List, [], ◌∷◌, length, Option, Some, None, refl}
use Rattle.std.specs.Prelude.{ℕ, codes, nat_le, IfSome}
use Rattle.std.specs.Option.{option_map}
use Rattle.std.specs.Str.{bytes_eq}
use Rattle.vn_types.specs.Paths.{Path}
use Rattle.vn_cells.specs.declared.listing.Table.{Table}
use Rattle.vn_cells.specs.declared.script.Line.{Line}
use Rattle.vn_cells.specs.declared.script.Line.TheVariants as line
use Rattle.vn_cells.specs.machine.Events.{is_valid_asked}
use Rattle.vn_shell.specs.Commands.{command_of}
use Rattle.vn_shell.specs.Requests.{table_of, listing_of, step_of, reading_of, request_of, depth_in}
use Rattle.vn_shell.proofs.Found.{some_map, some_if, some_or}
use Rattle.vn_shell.proofs.Commands.{Bounded, valid_below, arp_in, route_in, ifconfig_in, sysctl_in, netstat_in, ping_in, udp_in}
use Rattle.vn_shell.proofs.Jail.{jail_in}

pub command_in : (words : List (List ℕ)) → IfSome (command_of words) Bounded
unfolding command_of
command_in [] = tt
command_in (program ∷ words) =
    some_if Bounded (bytes_eq program (codes "jail")) _ _ (jail_in words)
    (some_if Bounded (bytes_eq program (codes "ifconfig")) _ _ (ifconfig_in words)
    (some_if Bounded (bytes_eq program (codes "route")) _ _ (route_in words)
    (some_if Bounded (bytes_eq program (codes "arp")) _ _ (arp_in words)
    (some_if Bounded (bytes_eq program (codes "sysctl")) _ _ (sysctl_in words)
    (some_if Bounded (bytes_eq program (codes "netstat")) _ _ (netstat_in words)
    (some_if Bounded (bytes_eq program (codes "ping")) _ _ (ping_in words)
    (some_if Bounded (bytes_eq program (codes "udp")) _ None (udp_in words) tt)))))))

-- what may be asked for at each path that has room
abbrev pub Asks : Line → Type 0
Asks asked = (issuer : Path) → nat_le (length issuer + depth_in asked) 8 ≡ true → is_valid_asked issuer asked ≡ true

step_in : (word : List ℕ) → IfSome (step_of word) Asks
unfolding step_of is_valid_asked
step_in word =
    some_if Asks (bytes_eq word (codes "next")) (Some line.Next) _ (λ issuer few. refl)
    (some_if Asks (bytes_eq word (codes "close")) (Some line.Close) _ (λ issuer few. refl)
    (some_if Asks (bytes_eq word (codes "watch")) (Some line.Watch) None (λ issuer few. refl) tt))

any : (o : Option Table) → IfSome o (λ table. Unit {0})
any None = tt
any (Some table) = tt

reading_in : (words : List (List ℕ)) → IfSome (reading_of words) Asks
unfolding reading_of is_valid_asked
reading_in [] = tt
reading_in (word ∷ []) = step_in word
reading_in (word ∷ other ∷ []) =
    some_if Asks (bytes_eq word (codes "open")) _ _
    (some_map (λ table. Unit {0}) Asks (table_of other) line.Open (any (table_of other)) (λ table h issuer few. refl))
    (some_map (λ table. Unit {0}) Asks (listing_of word other) line.List (any (listing_of word other)) (λ table h issuer few. refl))
reading_in (word ∷ other ∷ more ∷ words) = tt

pub request_in : (words : List (List ℕ)) → IfSome (request_of words) Asks
unfolding request_of is_valid_asked
request_in words =
    some_or Asks (reading_of words) (option_map line.Cmd (command_of words)) (reading_in words)
    (some_map Bounded Asks (command_of words) line.Cmd (command_in words) (λ command h issuer few. valid_below issuer command h few))
