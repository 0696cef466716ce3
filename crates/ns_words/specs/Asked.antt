-- What the words of the command line ask for: each field by the option of its name.
use Rattle.std.specs.Prelude.{◌≡◌, ◌≢◌, ◌<◌, ◌≤◌, ℕ, List, [], Bool, true, false, Option, None, Some, is_some, codes, ⊤}
use Rattle.std.specs.Option.{option_map}
use Rattle.std.specs.Str.Parse.{IsNumeral, digits_value, without_leading_plus}
use Rattle.std.specs.Net.Grammar.{IsSocketText}
use Rattle.std.specs.declared.net.socket_addr.SocketAddr.{SocketAddr}
use Rattle.clap.specs.Words.{Row, Text, fault_of, first_of, one_of, subcommand_of}
use Rattle.ns_exchange.specs.HostText.{host_text}
use Rattle.ns_output.specs.declared.output.Output.{Output}
use Rattle.ns_output.specs.declared.output.Output.TheVariants as output
use Rattle.ns_serve_parts.specs.declared.options.ServeOptions.{ServeOptions}
use Rattle.ns_words.specs.declared.options.Asked.{Asked}
use Rattle.ns_words.specs.declared.options.Asked.TheVariants.{Replay, Check, Serve, Compact}
use Rattle.ns_words.specs.declared.options.Recorded.{Recorded}
use Rattle.ns_words.specs.declared.options.Addresses.{Addresses}
use Rattle.ns_words.specs.declared.options.Workers.{Workers}
use Rattle.ns_words.specs.declared.options.Limits.{Limits}
use Rattle.ns_words.specs.declared.options.OptionName.{OptionName}
use Rattle.ns_words.specs.declared.options.OptionName.TheVariants.{Join, Host, Listen, Forwarders, Power, Status, JoinWorkers, Window, StopAfter, Trim, Record}
use Rattle.ns_words.specs.declared.options.OptionName.TheVariants as name
use Rattle.ns_words.specs.Commands.{program}

-- the name of an option
abbrev pub name_of : OptionName → Text
name_of Join = codes "join"
name_of Host = codes "host"
name_of Listen = codes "listen"
name_of Forwarders = codes "forwarders"
name_of Power = codes "power"
name_of Status = codes "status"
name_of name.Workers = codes "workers"
name_of JoinWorkers = codes "join-workers"
name_of Window = codes "window"
name_of StopAfter = codes "stop-after"
name_of Trim = codes "trim"
name_of Record = codes "record"
name_of name.Output = codes "output"

-- the option's value is this number in decimal digits
abbrev pub IsNumber : Text → List Row → ℕ → Type 0
IsNumber id rows n = (text : Text) × (one_of id rows ≡ Some text) × IsNumeral 10 (without_leading_plus text) × (n ≡ digits_value 10 (without_leading_plus text))

-- and it is from 1 to this
abbrev pub IsCount : Text → ℕ → List Row → ℕ → Type 0
IsCount id most rows n = IsNumber id rows n × (0 < n) × (n ≤ most)

-- the option's value is this address of an IP address and a port
abbrev pub IsAddr : Text → List Row → SocketAddr → Type 0
IsAddr id rows addr = (text : Text) × (one_of id rows ≡ Some text) × IsSocketText text addr

-- an address where the option is given, and else none
abbrev pub IsAddrIfGiven : Text → List Row → Option SocketAddr → Type 0
IsAddrIfGiven id rows None = one_of id rows ≡ None
IsAddrIfGiven id rows (Some addr) = IsAddr id rows addr

-- a number where the option is given, and else none
abbrev pub IsNumberIfGiven : Text → List Row → Option ℕ → Type 0
IsNumberIfGiven id rows None = one_of id rows ≡ None
IsNumberIfGiven id rows (Some n) = IsCount id 4294967295 rows n

-- a number, and none for `never`
abbrev pub IsNumberOrNever : Text → List Row → Option ℕ → Type 0
IsNumberOrNever id rows None = first_of id rows ≡ Some (codes "never")
IsNumberOrNever id rows (Some n) = IsCount id 4294967295 rows n

-- whether a flag was given
abbrev pub IsFlag : Text → List Row → Bool → Type 0
IsFlag id rows true = one_of id rows ≡ Some (codes "true")
IsFlag id rows false = one_of id rows ≢ Some (codes "true")

-- uplinks are written as the option says
abbrev pub IsOutput : List Row → Output → Type 0
IsOutput rows output.Lines = first_of (codes "output") rows ≡ Some (codes "lines")
IsOutput rows output.Json = first_of (codes "output") rows ≡ Some (codes "json")

-- what is to be served is what the options behind `serve` say
pub record HasOptions (rows : List Row) (o : ServeOptions) : Type 0 where
  pub join : IsAddr (codes "join") rows o.join
  pub host : first_of (codes "host") rows ≡ Some (host_text o.host)
  pub listen : IsAddrIfGiven (codes "listen") rows o.listen
  pub forwarders : IsAddrIfGiven (codes "forwarders") rows o.forwarders
  pub power : IsCount (codes "power") 27 rows o.power
  pub status : IsAddrIfGiven (codes "status") rows o.status
  pub status_host : option_map (λ n. n.now) o.status_host ≡ first_of (codes "status-host") rows
  pub workers : IsCount (codes "workers") 16 rows o.workers
  pub join_workers : IsCount (codes "join-workers") 16 rows o.join_workers
  pub window_ms : IsCount (codes "window") 60000 rows o.window_ms
  pub stop_after : IsNumberIfGiven (codes "stop-after") rows o.stop_after
  pub stop_at_end : IsFlag (codes "stop-at-end-of-input") rows o.stop_at_end
  pub trim : IsNumberOrNever (codes "trim") rows o.trim
  pub output : IsOutput rows o.output
  pub events : IsFlag (codes "events") rows o.events
  pub closing : IsFlag (codes "closing") rows o.closing
  pub both : is_some o.listen ≡ true → is_some o.forwarders ≡ true → 1 < o.workers

-- the options about addresses, about threads, and about limits
pub record HasAddresses (rows : List Row) (a : Addresses) : Type 0 where
  pub join : IsAddr (codes "join") rows a.join
  pub host : first_of (codes "host") rows ≡ Some (host_text a.host)
  pub listen : IsAddrIfGiven (codes "listen") rows a.listen
  pub forwarders : IsAddrIfGiven (codes "forwarders") rows a.forwarders
  pub power : IsCount (codes "power") 27 rows a.power

pub record HasWorkers (rows : List Row) (w : Workers) : Type 0 where
  pub status : IsAddrIfGiven (codes "status") rows w.status
  pub workers : IsCount (codes "workers") 16 rows w.workers
  pub join_workers : IsCount (codes "join-workers") 16 rows w.join_workers

pub record HasLimits (rows : List Row) (l : Limits) : Type 0 where
  pub window_ms : IsCount (codes "window") 60000 rows l.window_ms
  pub stop_after : IsNumberIfGiven (codes "stop-after") rows l.stop_after
  pub stop_at_end : IsFlag (codes "stop-at-end-of-input") rows l.stop_at_end
  pub trim : IsNumberOrNever (codes "trim") rows l.trim

-- and what it is put down in, which is nothing where the closing roster is asked for
pub record HasRecord (rows : List Row) (r : Recorded) : Type 0 where
  pub folder : option_map (λ f. f.now) r.folder ≡ first_of (codes "record") rows
  pub sync : IsFlag (codes "sync") rows r.sync
  pub alone : is_some r.folder ≡ true → IsFlag (codes "closing") rows false

-- the roster's file
abbrev pub HasRoster : List Row → Text → Type 0
HasRoster rows path = first_of (codes "ROSTER") rows ≡ Some path

-- what was found behind a command's name
abbrev pub IsAskedBy : List Row → Asked → Type 0
IsAskedBy rows (Replay path uplinks closing) = (first_of (codes "ROSTER") rows ≡ Some path.now) × IsOutput rows uplinks × IsFlag (codes "closing") rows closing
IsAskedBy rows (Check path folder) = (first_of (codes "ROSTER") rows ≡ Some path.now) × (option_map (λ f. f.now) folder ≡ first_of (codes "record") rows)
IsAskedBy rows (Serve path options recorded) = (first_of (codes "ROSTER") rows ≡ Some path.now) × HasOptions rows options × HasRecord rows recorded
IsAskedBy rows (Compact path folder) = (first_of (codes "ROSTER") rows ≡ Some path.now) × (first_of (codes "DIR") rows ≡ Some folder.now)

-- the command that is asked for
abbrev pub command_of : Asked → Text
command_of (Replay path uplinks closing) = codes "replay"
command_of (Check path folder) = codes "check"
command_of (Serve path options recorded) = codes "serve"
command_of (Compact path folder) = codes "compact"

-- clap finds no fault in the words, they name the command, and what stands behind it asks for this
abbrev pub IsAsked : List Text → Asked → Type 0
IsAsked words asked =
    (fault_of program words ≡ []) × ((rows : List Row) × (subcommand_of program words ≡ Some (command_of asked, rows)) × IsAskedBy rows asked)

-- what can be served: numbers of workers from 1 to 16
abbrev pub IsServed : ServeOptions → Type 0
IsServed options = ((0 < options.workers) × (options.workers ≤ 16)) × ((0 < options.join_workers) × (options.join_workers ≤ 16))

abbrev pub IsDoable : Asked → Type 0
IsDoable (Replay path uplinks closing) = ⊤
IsDoable (Check path folder) = ⊤
IsDoable (Serve path options recorded) = IsServed options
IsDoable (Compact path folder) = ⊤
