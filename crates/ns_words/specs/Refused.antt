-- When reading the command line is refused: by clap, for a fault that the words have by the program's rules, and else for a value that an
-- option cannot have.
use Rattle.std.specs.Prelude.{◌≡◌, ◌≢◌, ◌⊎◌, ℕ, List, [], true, false, Result, Ok, Err, Some, None, is_some, codes, ⊤}
use Rattle.std.specs.declared.net.socket_addr.SocketAddr.{SocketAddr}
use Rattle.clap.specs.Values.{kind_of}
use Rattle.clap.specs.Words.{IsAmong, Row, Text, all_of, fault_of, first_of, one_of, subcommand_of}
use Rattle.clap.specs.declared.error.Error.{Error}
use Rattle.clap.specs.declared.error.kind.ErrorKind.TheVariants.{OutOfMemory}
use Rattle.ns_exchange.specs.Host.{is_host_name}
use Rattle.ns_words.specs.declared.options.BadWords.{BadWords}
use Rattle.ns_words.specs.declared.options.BadWords.TheVariants.{NoMemory, NotText, BadValue, Shown}
use Rattle.ns_words.specs.declared.options.OptionName.{OptionName}
use Rattle.ns_words.specs.declared.options.OptionName.TheVariants.{Join, Host, Listen, Forwarders, Power, Status, Workers, JoinWorkers, Window, StopAfter, Trim, Record, Output}
use Rattle.ns_words.specs.Asked.{IsAddr, IsAskedBy, IsCount, IsDoable, command_of}
use Rattle.ns_words.specs.declared.options.Asked.{Asked}
use Rattle.ns_words.specs.Commands.{program}

-- the option is there, with a value of its own or with none
abbrev pub IsThere : Text → List Row → Type 0
IsThere id rows = is_some (all_of id rows) ≡ true

-- its value is no address of an IP address and a port
abbrev pub HasNoAddr : Text → List Row → Type 0
HasNoAddr id rows = (addr : SocketAddr) → ¬ IsAddr id rows addr

-- its value is no number from 1 to this
abbrev pub HasNoCount : Text → ℕ → List Row → Type 0
HasNoCount id most rows = (n : ℕ) → ¬ IsCount id most rows n

-- its value is no host's name
abbrev pub HasNoHost : Text → List Row → Type 0
HasNoHost id rows = (text : Text) → first_of id rows ≡ Some text → is_host_name text ≡ false

-- its value is another word
abbrev pub IsNotNever : Text → List Row → Type 0
IsNotNever id rows = first_of id rows ≢ Some (codes "never")

-- it is neither word for how uplinks are written
abbrev pub IsNoOutput : List Row → Type 0
IsNoOutput rows = (first_of (codes "output") rows ≢ Some (codes "lines")) × (first_of (codes "output") rows ≢ Some (codes "json"))

-- a folder is given together with `--closing`
abbrev pub IsWithClosing : List Row → Type 0
IsWithClosing rows = (is_some (first_of (codes "record") rows) ≡ true) × (one_of (codes "closing") rows ≡ Some (codes "true"))

-- an option has an address
abbrev pub IsAddress : Text → List Row → Type 0
IsAddress id rows = (addr : SocketAddr) × IsAddr id rows addr

-- one thread is to hear at two sockets
abbrev pub IsOneForBoth : List Row → Type 0
IsOneForBoth rows = IsAddress (codes "listen") rows × IsAddress (codes "forwarders") rows × IsCount (codes "workers") 16 rows (1)

-- the option has a value that it cannot have
abbrev pub HasBadValue : OptionName → List Row → Type 0
HasBadValue Join rows = HasNoAddr (codes "join") rows
HasBadValue Host rows = HasNoHost (codes "host") rows
HasBadValue Listen rows = IsThere (codes "listen") rows × HasNoAddr (codes "listen") rows
HasBadValue Forwarders rows = IsThere (codes "forwarders") rows × HasNoAddr (codes "forwarders") rows
HasBadValue Power rows = HasNoCount (codes "power") 27 rows
HasBadValue Status rows = IsThere (codes "status") rows × HasNoAddr (codes "status") rows
HasBadValue Workers rows = HasNoCount (codes "workers") 16 rows ⊎ IsOneForBoth rows
HasBadValue JoinWorkers rows = HasNoCount (codes "join-workers") 16 rows
HasBadValue Window rows = HasNoCount (codes "window") 60000 rows
HasBadValue StopAfter rows = IsThere (codes "stop-after") rows × HasNoCount (codes "stop-after") 4294967295 rows
HasBadValue Trim rows = IsNotNever (codes "trim") rows × HasNoCount (codes "trim") 4294967295 rows
HasBadValue Record rows = IsWithClosing rows
HasBadValue Output rows = IsNoOutput rows

-- what stands behind a command's name is refused for such a value alone
abbrev pub IsRefused : List Row → BadWords → Type 0
IsRefused rows (BadValue name) = HasBadValue name rows
IsRefused rows NoMemory = ⊥
IsRefused rows NotText = ⊥
IsRefused rows (Shown error) = ⊥

-- a command has an option: `serve` each, `replay` one of those with a value
abbrev pub HasOption : Text → OptionName → Type 0
HasOption name option = (name ≡ codes "serve") ⊎ ((name ≡ codes "replay") × (option ≡ Output))

-- the program has a command of this name
abbrev pub IsCommandName : Text → Type 0
IsCommandName name = (name ≡ codes "serve") ⊎ (name ≡ codes "replay") ⊎ (name ≡ codes "check") ⊎ (name ≡ codes "compact")

-- the same behind a command's name; nothing else is refused but a command that the program has not, one without the roster's file, or a
-- compaction without a folder
abbrev pub IsRefusedBehind : Text → List Row → BadWords → Type 0
IsRefusedBehind name rows (BadValue option) = HasOption name option × HasBadValue option rows
IsRefusedBehind name rows NoMemory =
    (first_of (codes "ROSTER") rows ≡ None) ⊎ ((name ≡ codes "compact") × (first_of (codes "DIR") rows ≡ None)) ⊎ (¬ IsCommandName name)
IsRefusedBehind name rows NotText = ⊥
IsRefusedBehind name rows (Shown error) = ⊥

-- what is read of the options is this, or one of them is refused
abbrev pub IsRead : {T : Type 0} → List Row → (T → Type 0) → Result T BadWords → Type 0
IsRead rows P (Ok x) = P x
IsRead rows P (Err bad) = IsRefused rows bad

-- and the same behind a command's name
abbrev pub IsReadBehind : Text → List Row → Result Asked BadWords → Type 0
IsReadBehind name rows (Ok asked) = IsDoable asked × (name ≡ command_of asked) × IsAskedBy rows asked
IsReadBehind name rows (Err bad) = IsRefusedBehind name rows bad

-- what becomes of an error of clap's: want of memory is told as such, and any other is shown
abbrev pub IsOfClap : Error → BadWords → Type 0
IsOfClap error NoMemory = kind_of error ≡ OutOfMemory
IsOfClap error NotText = ⊥
IsOfClap error (BadValue name) = ⊥
IsOfClap error (Shown shown) = (shown ≡ error) × (kind_of error ≢ OutOfMemory)

-- A fault that clap finds in the words, as a number out of its option's range or an option that is unknown, is shown. Where it finds none,
-- an option of the command has a value that it cannot have.
abbrev pub IsRefusal : List Text → BadWords → Type 0
IsRefusal words NoMemory = ⊤
IsRefusal words NotText = ⊥
IsRefusal words (BadValue name) =
    (fault_of program words ≡ []) × ((command : Text) × (rows : List Row)
    × (subcommand_of program words ≡ Some (command, rows)) × HasOption command name × HasBadValue name rows)
IsRefusal words (Shown error) = IsAmong (kind_of error) (fault_of program words)

-- what reading words refuses is told: a shown text is not want of memory, and words that came as text are text
abbrev pub IsTold : BadWords → Type 0
IsTold NoMemory = ⊤
IsTold NotText = ⊥
IsTold (BadValue name) = ⊤
IsTold (Shown error) = kind_of error ≢ OutOfMemory
