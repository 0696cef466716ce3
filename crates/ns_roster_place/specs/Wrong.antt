-- What is wrong with a field, said without an order of tests.
use Rattle.std.specs.Prelude.{◌≡◌, ◌≢◌, ◌≤◌, ℕ, List, false, None, Some, codes}
use Rattle.serde_json.specs.Data.{Data}
use Rattle.ns_roster.specs.Field.{whole_at, list_at, is_missing}
use Rattle.ns_roster.specs.Text.{eui_at, net_id_at}
use Rattle.ns_roster.specs.Valid.{max_rx1_offset, max_rx_delay, max_slot, max_nonce}
use Rattle.ns_roster_place.specs.declared.place.OuterField.{OuterField}
use Rattle.ns_roster_place.specs.declared.place.OuterField.TheVariants.{Version, NetId, Rx1Offset, RxDelay, Devices}
use Rattle.ns_roster_place.specs.declared.place.DeviceField.{DeviceField}
use Rattle.ns_roster_place.specs.declared.place.DeviceField.TheVariants.{DevEui, JoinEui, Slot, LastNonce}

-- no whole number from 0 to the greatest stands at the key
abbrev pub HasNoneUpTo : ℕ → List ℕ → Data → Type 0
HasNoneUpTo greatest key d = (n : ℕ) → n ≤ greatest → whole_at key d ≢ Some n

-- the field of a roster is missing or wrong
abbrev pub IsWrongOuter : Data → OuterField → Type 0
IsWrongOuter d Version = (whole_at (codes "version") d ≢ Some 1) × (whole_at (codes "version") d ≢ Some 2)
IsWrongOuter d NetId = net_id_at (codes "net_id") d ≡ None
IsWrongOuter d Rx1Offset = HasNoneUpTo max_rx1_offset (codes "rx1_offset") d
IsWrongOuter d RxDelay = HasNoneUpTo max_rx_delay (codes "rx_delay") d
IsWrongOuter d Devices = list_at (codes "devices") d ≡ None

-- the field of a device is missing or wrong, in a text of this version
abbrev pub IsWrongField : ℕ → Data → DeviceField → Type 0
IsWrongField version d DevEui = eui_at (codes "dev_eui") d ≡ None
IsWrongField version d JoinEui = eui_at (codes "join_eui") d ≡ None
IsWrongField version d Slot = HasNoneUpTo max_slot (codes "slot") d
IsWrongField version d LastNonce = (version ≡ 2) × (is_missing (codes "last_nonce") d ≡ false) × HasNoneUpTo max_nonce (codes "last_nonce") d
