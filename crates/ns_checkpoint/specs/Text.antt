-- The text of a checkpoint, line by line.
use Rattle.std.specs.Prelude.{ℕ, ◌+◌, List, [], ◌∷◌, ◌++◌, length, take, map, flat_map, codes, Option, None, Some}
use Rattle.std.specs.Int.{w16, w32, w64, to_be_bytes}
use Rattle.hex.specs.Hex.{encode_lower}
use Rattle.ns_types.specs.declared.heard.Heard.{Heard}
use Rattle.ns_types.specs.declared.identity.Key.{Key}
use Rattle.ns_link.specs.Datagram.{two_complement}
use Rattle.ns_aes_cmac.specs.Cmac.{cmac}
use Rattle.ns_sessions.specs.declared.session.Session.{Session}
use Rattle.ns_sessions.specs.declared.ticket.OpenTicket.{OpenTicket}
use Rattle.ns_windows.specs.declared.window.Window.{Window}
use Rattle.ns_checkpoint.specs.declared.tables.DeviceTable.{DeviceTable}
use Rattle.ns_checkpoint.specs.declared.tables.Tables.{Tables}
use Rattle.ns_checkpoint.specs.declared.tables.Head.{Head}
use Rattle.ns_checkpoint.specs.declared.tables.Checkpoint.{Checkpoint}

-- ---- fields: each begins with a space

-- bytes in lower-case hex
abbrev pub hex_field : List ℕ → List ℕ
hex_field bytes = codes " " ++ encode_lower bytes

-- numbers of 8, 16, 32 and 64 bits in hex of full width, the highest digit first
abbrev pub field_8 : ℕ → List ℕ
field_8 n = hex_field (n ∷ [])

abbrev pub field_16 : ℕ → List ℕ
field_16 n = hex_field (to_be_bytes w16 n)

abbrev pub field_32 : ℕ → List ℕ
field_32 n = hex_field (to_be_bytes w32 n)

abbrev pub field_64 : ℕ → List ℕ
field_64 n = hex_field (to_be_bytes w64 n)

abbrev pub key_field : Key → List ℕ
key_field key = hex_field key.0

-- a dash in place of what is missing
abbrev pub or_dash : {X : Type 0} → (X → List ℕ) → Option X → List ℕ
or_dash text None = codes " -"
or_dash text (Some x) = text x

-- `NUMBER NWKSKEY APPSKEY COUNTER ROUND ACK`
unfoldable pub session_fields : Session → List ℕ
session_fields s =
    field_32 s.number ++ key_field s.nwk ++ or_dash key_field s.app ++ or_dash field_32 s.greatest_counter
    ++ field_32 s.round ++ field_64 s.next_ack

-- `GATEWAY MOMENT FREQUENCY DR RSSI SNR`
unfoldable pub heard_fields : Heard → List ℕ
heard_fields h =
    field_64 h.gateway.0 ++ field_64 h.moment ++ field_32 h.freq ++ field_8 h.dr
    ++ hex_field (two_complement h.rssi) ++ hex_field (two_complement h.snr)

-- ---- lines

-- `device EUI GREATEST NEXT SESSION ..`, with the fields of each live session
unfoldable pub device_line : DeviceTable → List ℕ
device_line d =
    codes "device" ++ field_64 d.eui.0 ++ or_dash (λ n. field_16 n.0) d.greatest ++ field_32 d.next_session
    ++ flat_map session_fields d.sessions.items

-- `ticket TICKET COPIES BEST`
unfoldable pub ticket_line : OpenTicket → List ℕ
ticket_line t = codes "ticket" ++ hex_field t.ticket.0 ++ field_8 t.copies.count ++ or_dash heard_fields t.copies.best

-- `window EUI SESSION FCNT ROUND NWKSKEY APPSKEY FRAME`
unfoldable pub window_line : Window → List ℕ
window_line w =
    codes "window" ++ field_64 w.name.eui.0 ++ field_32 w.name.session ++ field_32 w.name.fcnt ++ field_32 w.name.round
    ++ key_field w.nwk ++ or_dash key_field w.app ++ hex_field w.frame

-- `copy HEARD`
unfoldable pub copy_line : Heard → List ℕ
copy_line h = codes "copy" ++ heard_fields h

-- `shard NUMBER`
unfoldable pub shard_line : ℕ → List ℕ
shard_line number = codes "shard" ++ field_8 number

-- `checkpoint 1 LINES UPS`
unfoldable pub head_line : Head → List ℕ
head_line head = codes "checkpoint 1" ++ field_64 head.lines ++ field_64 head.ups

-- `end CHECKSUM`
unfoldable pub end_line : List ℕ → List ℕ
end_line sum = codes "end" ++ hex_field sum

-- ---- the whole

-- a device, then its open tickets
abbrev pub device_lines : DeviceTable → List (List ℕ)
device_lines d = device_line d ∷ map ticket_line d.tickets.items

-- a window, then its copies
abbrev pub window_lines : Window → List (List ℕ)
window_lines w = window_line w ∷ map copy_line w.copies.items

-- the tables of the shard of this number
abbrev pub tables_lines : ℕ → Tables → List (List ℕ)
tables_lines number t = shard_line number ∷ flat_map device_lines t.devices.items ++ flat_map window_lines t.windows.items

-- those of shards, the first of which has this number
abbrev pub shards_lines : ℕ → List Tables → List (List ℕ)
shards_lines number [] = []
shards_lines number (t ∷ more) = tables_lines number t ++ shards_lines (number + 1) more

-- lines, each with its line feed
abbrev pub lines_text : List (List ℕ) → List ℕ
lines_text lines = flat_map (λ line. line ++ 10 ∷ []) lines

-- the head, then all tables
abbrev pub summed_lines : Checkpoint → List (List ℕ)
summed_lines c =
    let lines = shards_lines 0 c.shards.items in
    head_line (record { lines = length lines; ups = c.ups }) ∷ lines

-- the checksum of a text: the first eight bytes of its CMAC under a key that everybody knows
abbrev pub sum_key : List ℕ
sum_key = codes "lorawan_ns check"

abbrev pub checksum : List ℕ → List ℕ
checksum text = take 8 (cmac sum_key text)

-- all lines, and then the checksum of their text
abbrev pub checkpoint_text : Checkpoint → List ℕ
checkpoint_text c =
    let text = lines_text (summed_lines c) in
    text ++ lines_text (end_line (checksum text) ∷ [])
