-- The lists of devices and of gateways, in JSON.
use Rattle.std.specs.Prelude.{ℕ, ◌/◌, Bool, true, false, List, [], ◌∷◌, ◌++◌, codes, decimal, Option, Some, None}
use Rattle.serde_json.specs.Data.{Data, null, number, unsigned, string, object, member, no_members}
use Rattle.serde_json.specs.Written.{compact_text}
use Rattle.ns_types.specs.declared.identity.DevEui.{DevEui}
use Rattle.ns_types.specs.declared.identity.GatewayId.{GatewayId}
use Rattle.ns_roster.specs.Field.{hex_number}
use Rattle.ns_status.specs.declared.devices.HeardBy.{HeardBy}
use Rattle.ns_status.specs.declared.devices.Device.{Device}
use Rattle.ns_status.specs.declared.gateways.Gateway.{Gateway}
use Rattle.ns_status.specs.Airtime.{slot_of, spent_at}
use Rattle.ns_status.specs.Devices.{missed}

-- what stands before the rows of a list, and behind them
abbrev pub front_text : List ℕ → ℕ → ℕ → List ℕ
front_text name now start = codes "{\"nowMs\":" ++ decimal now ++ codes ",\"startMs\":" ++ decimal start ++ codes ",\"" ++ name ++ codes "\":["

abbrev pub end_text : List ℕ
end_text = codes "\n]}\n"

-- a number, and who heard a device and when; null where it is not known
abbrev pub whole_data : Option ℕ → Data
whole_data None = null
whole_data (Some n) = number (unsigned n)

abbrev pub heard_gateway_data : Option HeardBy → Data
heard_gateway_data None = null
heard_gateway_data (Some heard) = string (hex_number 8 heard.gateway.0)

abbrev pub heard_ms_data : Option HeardBy → Data
heard_ms_data None = null
heard_ms_data (Some heard) = number (unsigned heard.at_ms)

-- a device whose session is known, and one of which none is
abbrev pub joined_data : DevEui → Device → Data
joined_data eui d =
    object (member (codes "devAddr") (string (hex_number 4 d.addr.0))
    (member (codes "devEui") (string (hex_number 8 eui.0))
    (member (codes "fCnt") (whole_data d.fcnt)
    (member (codes "gatewayId") (heard_gateway_data d.heard)
    (member (codes "heardMs") (heard_ms_data d.heard)
    (member (codes "missed") (number (unsigned (missed d)))
    (member (codes "session") (number (unsigned d.session))
    (member (codes "sinceMs") (whole_data d.since_ms) no_members))))))))

abbrev pub unjoined_data : DevEui → Data
unjoined_data eui =
    object (member (codes "devAddr") null
    (member (codes "devEui") (string (hex_number 8 eui.0))
    (member (codes "fCnt") null
    (member (codes "gatewayId") null
    (member (codes "heardMs") null
    (member (codes "missed") (number (unsigned 0))
    (member (codes "session") null
    (member (codes "sinceMs") null no_members))))))))

abbrev pub device_data : DevEui → Option Device → Data
device_data eui None = unjoined_data eui
device_data eui (Some d) = joined_data eui d

-- a gateway at a moment
abbrev pub gateway_data : ℕ → GatewayId → Gateway → Data
gateway_data now id g =
    object (member (codes "airtimeMs") (number (unsigned (spent_at g.airtime.slots (slot_of now) / 1000)))
    (member (codes "frames") (number (unsigned g.frames))
    (member (codes "gatewayId") (string (hex_number 8 id.0))
    (member (codes "heardMs") (whole_data g.frame_ms)
    (member (codes "pullMs") (whole_data g.pull_ms)
    (member (codes "refused") (number (unsigned g.refused))
    (member (codes "sent") (number (unsigned g.sent))
    (member (codes "statMs") (whole_data g.stat_ms) no_members))))))))

-- the rows of a device and of a gateway
abbrev pub device_row : DevEui × Option Device → Data
device_row row = device_data row.0 row.1

abbrev pub gateway_row : ℕ → GatewayId × Gateway → Data
gateway_row now row = gateway_data now row.0 row.1

-- a row on a line of its own, with a comma before all but the first of a list
abbrev pub row_text : Bool → Data → List ℕ
row_text true d = codes "\n" ++ compact_text d
row_text false d = codes ",\n" ++ compact_text d

-- rows, of which the first is the first of the list or not
abbrev pub rows_text : Bool → List Data → List ℕ
rows_text is_first [] = []
rows_text is_first (d ∷ ds) = row_text is_first d ++ rows_text false ds
