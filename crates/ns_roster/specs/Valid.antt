-- What holds of every roster that was read.
use Rattle.std.specs.Prelude.{ℕ, ◌≡◌, ◌≤◌, ◌≢◌, List, length, All, AllPairs}
use Rattle.ns_roster.specs.declared.Device.{Device}
use Rattle.ns_types.specs.Identity.{shard_of, shard_of_addr}
use Rattle.ns_roster.specs.Network.{Network, device_addr}

-- the greatest NetID of type 0: its bits 23 to 21 are 0 (LoRaWAN Backend Interfaces TS002, types of NetIDs)
abbrev pub max_net_id : ℕ
max_net_id = 2097151

-- the greatest RX1DROffset of EU868 (RP002, RX1DROffset)
abbrev pub max_rx1_offset : ℕ
max_rx1_offset = 5

-- the greatest RxDelay, of four bits (LoRaWAN L2 1.0.4, 6.2.6)
abbrev pub max_rx_delay : ℕ
max_rx_delay = 15

-- the greatest number of devices
abbrev pub max_devices : ℕ
max_devices = 65536

-- the greatest slot, of 21 bits
abbrev pub max_slot : ℕ
max_slot = 2097151

-- the greatest DevNonce, of 16 bits (LoRaWAN L2 1.0.4, 6.2.5)
abbrev pub max_nonce : ℕ
max_nonce = 65535

-- two devices have different DevEUIs
abbrev pub Differ : Device → Device → Type 0
Differ a b = a.eui.0 ≢ b.eui.0

-- the devices' slots are in range, and no two devices have one DevEUI
pub record AreDevices (devices : List Device) : Type 0 where
  pub slots : All (λ d. d.slot ≤ max_slot) devices
  pub distinct : AllPairs Differ devices

-- each number is in its range, and the devices are valid
pub record IsRoster (net : Network) : Type 0 where
  pub net_id : net.net_id.0 ≤ max_net_id
  pub rx1_offset : net.rx1_offset ≤ max_rx1_offset
  pub rx_delay : net.rx_delay ≤ max_rx_delay
  pub count : length net.devices ≤ max_devices
  pub devices : AreDevices net.devices

-- each device's address is in the device's shard
abbrev pub AreInShards : Network → Type 0
AreInShards net = All (λ d. shard_of_addr (device_addr net d) ≡ shard_of d.eui) net.devices
