-- What the code's own values stand for.
use Rattle.std.specs.Prelude.{ℕ, List, map, nat_eq, ◌≡◌}
use Rattle.std.specs.declared.hash.FoldHasher.{FoldHasher}
use Rattle.std.specs.declared.hash.BuildHasherDefault.{BuildHasherDefault}
use Rattle.std.specs.HashMap.{get, HashMap}
use Rattle.serde_json.specs.View.{view}
use Rattle.ns_roster.specs.declared.Device.{Device}
use Rattle.ns_roster.specs.declared.reading.Outer as code
use Rattle.ns_roster.specs.Text.{Outer, device_with}

-- the map has each device at its DevEUI, and nothing else
abbrev pub Indexes : HashMap ℕ Device (BuildHasherDefault FoldHasher) → List Device → Type 0
Indexes by_eui devices = (eui : ℕ) → get nat_eq by_eui eui ≡ device_with eui devices

-- the outer fields in the code
abbrev pub outer_view : code.Outer → Outer
outer_view o = record { version = o.version; net_id = o.net_id; rx1_offset = o.rx1_offset; rx_delay = o.rx_delay; devices = map view o.devices.now }
