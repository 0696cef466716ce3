-- The JSON objects of joins and of acknowledgements, as texts on one line without spaces, and what a reader of JSON finds in them.
use Rattle.std.specs.Prelude.{ℕ, ◌<◌, ◌^◌, List, [], ◌++◌, codes, decimal, Option, Some, None}
use Rattle.json.specs.Json.{Json, number, string, object, Members, no_members, member}
use Rattle.ns_types.specs.declared.identity.WindowName.{WindowName}
use Rattle.ns_lines.specs.Text.{wide, address_text}
use Rattle.ns_output.specs.declared.times.Utc.{Utc}
use Rattle.ns_events.specs.Times.{utc_text}

-- when it happened, where there is a clock
unfoldable pub time_text : Option Utc → List ℕ
time_text None = []
time_text (Some t) = codes ",\"time\":\"" ++ utc_text t ++ codes "\""

-- of which session it is, by DevEUI, DevAddr and number
unfoldable pub session_text : ℕ → ℕ → ℕ → List ℕ
session_text eui addr session =
    codes ",\"devEui\":\"" ++ wide eui ++ codes "\",\"devAddr\":\"" ++ address_text addr ++ codes "\",\"session\":" ++ decimal session

-- the object of a join: the session that begins
unfoldable pub join_json : Option Utc → ℕ → ℕ → ℕ → List ℕ
join_json time eui addr session = codes "{\"event\":\"join\"" ++ time_text time ++ session_text eui addr session ++ codes "}"

-- the object of an acknowledgement: the session and FCnt of the uplink that is acknowledged, and the gateway that is to send it
unfoldable pub ack_json : Option Utc → WindowName → ℕ → ℕ → List ℕ
ack_json time w addr gateway =
    codes "{\"event\":\"ack\"" ++ time_text time ++ session_text w.eui.0 addr w.session
    ++ codes ",\"fCnt\":" ++ decimal w.fcnt ++ codes ",\"gatewayId\":\"" ++ wide gateway ++ codes "\"}"

-- ---- values

-- the member of a time before others
abbrev pub with_time : Option Utc → Members → Members
with_time None rest = rest
with_time (Some t) rest = member (codes "time") (string (utc_text t)) rest

-- those of a session before others
abbrev pub session_members : ℕ → ℕ → ℕ → Members → Members
session_members eui addr session rest =
    member (codes "devEui") (string (wide eui))
    (member (codes "devAddr") (string (address_text addr))
    (member (codes "session") (number (decimal session)) rest))

-- those behind the session of an acknowledgement
abbrev pub ack_members : WindowName → ℕ → Members
ack_members w gateway = member (codes "fCnt") (number (decimal w.fcnt)) (member (codes "gatewayId") (string (wide gateway)) no_members)

-- the value of an event of this name
abbrev pub event_value : List ℕ → Option Utc → Members → Json
event_value name time rest = object (member (codes "event") (string name) (with_time time rest))

abbrev pub join_value : Option Utc → ℕ → ℕ → ℕ → Json
join_value time eui addr session = event_value (codes "join") time (session_members eui addr session no_members)

abbrev pub ack_value : Option Utc → WindowName → ℕ → ℕ → Json
ack_value time w addr gateway = event_value (codes "ack") time (session_members w.eui.0 addr w.session (ack_members w gateway))

-- the numbers of a window's name fit their types
abbrev pub NameFits : WindowName → Type 0
NameFits w = (w.session < 2 ^ 32) × (w.fcnt < 2 ^ 32)
