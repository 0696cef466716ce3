-- The network that a JSON text spells, said without an order of tests.
use Rattle.std.specs.Prelude.{ℕ, ◌≡◌, ◌≢◌, ◌≤◌, ◌⊎◌, true, Option, None, List, [], ◌∷◌, Some, option_map, codes, ⊤}
use Rattle.serde_json.specs.Data.{Data}
use Rattle.ns_types.specs.declared.identity.DevNonce.{DevNonce}
use Rattle.ns_roster.specs.declared.Device.{Device}
use Rattle.ns_roster.specs.Field.{value_of, is_missing, whole_at, list_at}
use Rattle.ns_roster.specs.Network.{Network}
use Rattle.ns_roster.specs.Text.{eui_at, net_id_at, items_list}
use Rattle.ns_roster.specs.Valid.{max_nonce}

-- what a device's value says of its last nonce: only version 2 has the field, and there it may be missing or null
abbrev pub SpellsNonce : ℕ → Data → Option DevNonce → Type 0
SpellsNonce version d None = (version ≢ 2) ⊎ (is_missing (codes "last_nonce") d ≡ true)
SpellsNonce version d (Some n) = (version ≡ 2) × (whole_at (codes "last_nonce") d ≡ Some n.0) × (n.0 ≤ max_nonce)

-- the value spells the device, in a text of this version
pub record SpellsDevice (version : ℕ) (d : Data) (x : Device) : Type 0 where
  pub eui : eui_at (codes "dev_eui") d ≡ Some x.eui.0
  pub join_eui : eui_at (codes "join_eui") d ≡ Some x.join_eui.0
  pub slot : whole_at (codes "slot") d ≡ Some x.slot
  pub last_nonce : SpellsNonce version d x.last_nonce

-- the values spell the devices, one each
abbrev pub SpellDevices : ℕ → List Data → List Device → Type 0
SpellDevices version [] [] = ⊤
SpellDevices version [] (x ∷ xs) = ⊥
SpellDevices version (d ∷ ds) [] = ⊥
SpellDevices version (d ∷ ds) (x ∷ xs) = SpellsDevice version d x × SpellDevices version ds xs

-- the value spells the network
pub record SpellsNetwork (d : Data) (net : Network) : Type 0 where
  pub version : ℕ
  pub one_or_two : (version ≡ 1) ⊎ (version ≡ 2)
  pub version_at : whole_at (codes "version") d ≡ Some version
  pub net_id : net_id_at (codes "net_id") d ≡ Some net.net_id.0
  pub rx1_offset : whole_at (codes "rx1_offset") d ≡ Some net.rx1_offset
  pub rx_delay : whole_at (codes "rx_delay") d ≡ Some net.rx_delay
  pub values : List Data
  pub list : option_map items_list (list_at (codes "devices") d) ≡ Some values
  pub devices : SpellDevices version values net.devices

-- the bytes spell the network
abbrev pub Spells : List ℕ → Network → Type 0
Spells bytes net = (d : Data) × (value_of bytes ≡ Some d) × SpellsNetwork d net
