-- What the fields of a device's state mean.
use Rattle.std.specs.Prelude.{◌≡◌, ◌+◌, ◌<◌, ◌≤◌, true, false, ◌++◌, IfSome, is_some, option_to_list}
use Rattle.ns_calls.specs.Headline.{nonces_up_to}
use Rattle.ns_sessions.specs.declared.device.DeviceState.TheInside.{Inside}
use Rattle.ns_sessions.specs.Record.{DeviceRecord}

abbrev pub record_of : Inside → DeviceRecord
record_of d = record {
  greatest_nonce = d.greatest_nonce;
  next_session = d.next_session;
  sessions = option_to_list d.active ++ option_to_list d.pending;
  tickets = d.tickets.items;
}

-- Uplinks were opened in the active session, and none in the pending one, which is newer. There are no more sessions than nonces, so
-- their numbers fit.
pub record IsState (d : Inside) : Type 0 where
  pub next : d.next_session ≤ nonces_up_to d.greatest_nonce + 1
  pub active : IfSome d.active (λ s. (is_some s.greatest_counter ≡ true) × (s.number < d.next_session))
  pub pending : IfSome d.pending (λ s. (is_some s.greatest_counter ≡ false) × (s.number < d.next_session))
  pub apart : IfSome d.active (λ a. IfSome d.pending (λ p. a.number < p.number))
