-- What a shard answers from, as tables.
use Rattle.std.specs.Prelude.{◌≡◌, ℕ, Bool, ◌||◌, nat_lt, List, length, map, filter, Option, option_map}
use Rattle.ns_types.specs.declared.identity.DevNonce.{DevNonce}
use Rattle.ns_roster.specs.Network.{Network}
use Rattle.ns_calls.specs.declared.call.Entry.{Entry}
use Rattle.ns_windows.specs.declared.window.Window.{Window}
use Rattle.ns_devices.specs.declared.own.Own.{Own}
use Rattle.ns_checkpoint.specs.declared.tables.DeviceTable.{DeviceTable}
use Rattle.ns_checkpoint.specs.declared.tables.Tables.{Tables}
use Rattle.ns_shard.specs.State.{State, Keeps}
use Rattle.ns_shard.specs.Tables.{devices_in, windows_in}

-- whether a device has a table: it has joined, or it has an open ticket
abbrev pub is_told : Own → Bool
is_told o = nat_lt 1 o.state.next_session || nat_lt 0 (length o.state.tickets)

-- the table of a device
abbrev pub table_of : Own → DeviceTable
table_of o = record {
  eui = o.device.eui;
  greatest = option_map (λ n. record { 0 = n }) o.state.greatest_nonce;
  next_session = o.state.next_session;
  sessions = record { items = o.state.sessions };
  tickets = record { items = o.state.tickets };
}

-- the tables of the devices that have one, in order
abbrev pub tables_of : List Own → List DeviceTable
tables_of devices = map table_of (filter is_told devices)

-- These are the tables of the shard: they say what each history says that the shard keeps, of all its devices that have a table, and of all
-- its open windows.
pub record HasTables (s : State) (t : Tables) : Type 0 where
  pub devices : (h : List Entry) → Keeps h s → t.devices.items ≡ tables_of (devices_in s.roster s.index h)
  pub windows : (h : List Entry) → Keeps h s → t.windows.items ≡ windows_in h

-- both are of one roster, and have one number
pub record AreOfOneShard (s t : State) : Type 0 where
  pub roster : s.roster ≡ t.roster
  pub index : s.index ≡ t.index
