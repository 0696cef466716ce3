-- Devices that have not joined.
use Rattle.std.specs.Prelude.{◌≡◌, [], Option}
use Rattle.ns_types.specs.declared.identity.DevNonce.{DevNonce}
use Rattle.ns_checkpoint.specs.declared.tables.DeviceTable.{DeviceTable}

-- the device has not joined, and has no open ticket, where the roster has this last nonce
pub record IsUnjoined (last : Option DevNonce) (d : DeviceTable) : Type 0 where
  pub greatest : d.greatest ≡ last
  pub next_session : d.next_session ≡ 1
  pub sessions : d.sessions.items ≡ []
  pub tickets : d.tickets.items ≡ []
