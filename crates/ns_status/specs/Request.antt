-- What a request asks for.
use Rattle.std.specs.Prelude.{◌≡◌, ℕ, ◌==◌, ◌&&◌, ◌||◌, nat_le, Bool, true, false, not, List, [], ◌∷◌, length, take, drop, map, codes, bytes_eq, is_some, option_map, Option, Some, None, Result, Ok, Err, if◌then◌else◌}
use Rattle.std.specs.Borrow.{Bor}
use Rattle.std.specs.Char.{is_ascii_digit}
use Rattle.std.specs.List.{list_all}
use Rattle.std.specs.Str.{str_eq_ignore_ascii_case}
use Rattle.httparse.specs.Grammar.{RequestHead, ReadsRequest}
use Rattle.httparse.specs.Spans.{name_and_value}
use Rattle.ns_types.specs.Results.{◌>>=◌}
use Rattle.ns_status.specs.declared.response.Status.TheVariants.{Malformed, Misdirected, NoMethod, NotFound}
use Rattle.ns_status.specs.declared.request.Route.{Route}
use Rattle.ns_status.specs.declared.request.Route.TheVariants.{Page, Metrics, Devices, Gateways, Health}
use Rattle.ns_status.specs.declared.request.Request.{Request}
use Rattle.ns_status.specs.declared.request.RequestFault.{RequestFault}
use Rattle.ns_status.specs.declared.request.RequestFault.TheVariants.{Refused}

-- bytes that end here, or go on with this mark
abbrev pub ends_or_has : ℕ → List ℕ → Bool
ends_or_has mark [] = true
ends_or_has mark (byte ∷ bytes) = byte == mark

-- whether a target is a path, with a query behind `?` or without
abbrev pub is_path : List ℕ → List ℕ → Bool
is_path path target = bytes_eq (take (length path) target) path && ends_or_has 63 (drop (length path) target)

-- what a target names
abbrev pub route_of : List ℕ → Option Route
route_of target =
    if is_path (codes "/") target then Some Page
    else if is_path (codes "/metrics") target then Some Metrics
    else if is_path (codes "/devices") target then Some Devices
    else if is_path (codes "/gateways") target then Some Gateways
    else if is_path (codes "/healthz") target then Some Health
    else None

-- a request for what there is
abbrev pub found : Option Route → Bool → Result (Route × Bool) RequestFault
found None is_head = Err (Refused NotFound)
found (Some route) is_head = Ok (route, is_head)

-- what a method and a target ask for, and whether the head of the response alone
abbrev pub request_of : List ℕ → List ℕ → Result (Route × Bool) RequestFault
request_of method target =
    if bytes_eq method (codes "HEAD") then found (route_of target) true
    else if bytes_eq method (codes "GET") then found (route_of target) false
    else Err (Refused NoMethod)

-- an address: an IPv6 address stands in brackets, an IPv4 address has digits and dots, and both may have a port behind a colon
abbrev pub is_address_byte : ℕ → Bool
is_address_byte byte = is_ascii_digit byte || byte == 46 || byte == 58

abbrev pub begins_with : ℕ → List ℕ → Bool
begins_with mark [] = false
begins_with mark (byte ∷ bytes) = byte == mark

abbrev pub is_address : List ℕ → Bool
is_address host = begins_with 91 host || list_all is_address_byte host

-- whether a host has a name, in either case, with a port or without
abbrev pub is_host_named : List ℕ → List ℕ → Bool
is_host_named name host =
    nat_le (length name) (length host) && (str_eq_ignore_ascii_case (take (length name) host) name && ends_or_has 58 (drop (length name) host))

-- whether a request to a host is meant for a server of this name: an address, this name or `localhost`, none of which another can give to it
abbrev pub is_trusted : List ℕ → List ℕ → Bool
is_trusted name host = is_address host || is_host_named (codes "localhost") host || is_host_named name host

-- whether a header is `Host`, and the value of the one among these headers, behind one that was found or none; two are malformed (RFC 9112, 3.2)
abbrev pub is_host : List ℕ × List ℕ → Bool
is_host header = str_eq_ignore_ascii_case header.0 (codes "host")

abbrev pub hosts_of : Option (List ℕ) → List (List ℕ × List ℕ) → Result (Option (List ℕ)) RequestFault
hosts_of host [] = Ok host
hosts_of host (header ∷ headers) =
    if is_host header then (if is_some host then Err (Refused Malformed) else hosts_of (Some header.1) headers)
    else hosts_of host headers

-- the same, of a value that is lent
abbrev pub hosts_seen : Result (Option (Bor (List ℕ))) RequestFault → Result (Option (List ℕ)) RequestFault
hosts_seen (Ok host) = Ok (option_map (λ h. h.now) host)
hosts_seen (Err fault) = Err fault

-- a request without a host, or to this server's, is met
abbrev pub trusted_or_none : List ℕ → Option (List ℕ) → Result (Unit {0}) RequestFault
trusted_or_none name None = Ok tt
trusted_or_none name (Some host) = if is_trusted name host then Ok tt else Err (Refused Misdirected)

abbrev pub host_fault : List ℕ → Result (Option (List ℕ)) RequestFault → Result (Unit {0}) RequestFault
host_fault name hosts = hosts >>= trusted_or_none name

-- what a head asks for of a server of this name: its host comes first, then its method, then its target
abbrev pub asked_of : List ℕ → RequestHead → Result (Route × Bool) RequestFault
asked_of name head = host_fault name (hosts_of None (map name_and_value head.fields)) >>= λ _. request_of head.method head.target

-- a request, if there is one, is the one that a head asks for
abbrev pub Asks : List ℕ → RequestHead → Result (Option Request) RequestFault → Type 0
Asks name head (Ok None) = ⊥
Asks name head (Ok (Some request)) = asked_of name head ≡ Ok (request.route, request.is_head)
Asks name head (Err fault) = asked_of name head ≡ Err fault

-- bytes begin with the head of a request for this
abbrev pub IsAsked : List ℕ → List ℕ → Request → Type 0
IsAsked name bytes request =
    (head : RequestHead) × (rest : List ℕ) × ReadsRequest bytes head rest × (asked_of name head ≡ Ok (request.route, request.is_head))
