-- What a trim is told of a shard.
use Rattle.std.specs.Prelude.{◌≡◌, ℕ, Bool, List, map}
use Rattle.ns_types.specs.declared.identity.DevEui.{DevEui}
use Rattle.ns_types.specs.declared.identity.WindowName.{WindowName}
use Rattle.ns_types.specs.declared.ticket.Ticket.{Ticket}
use Rattle.ns_calls.specs.declared.call.Entry.{Entry}
use Rattle.ns_calls.specs.History.{is_live, is_ticket_open}
use Rattle.ns_calls.specs.Entries.{open_windows}
use Rattle.ns_kept.specs.Kept.{is_kept, filter_before}

-- the live sessions, the open tickets and the names of the open windows are those of this history
pub record AreOf (h : List Entry) (lives : DevEui → ℕ → Bool) (has_ticket : Ticket → Bool) (names : List WindowName) : Type 0 where
  pub sessions : (eui : DevEui) (session : ℕ) → lives eui session ≡ is_live h eui session
  pub tickets : (t : Ticket) → has_ticket t ≡ is_ticket_open h t
  pub windows : names ≡ map (λ o. o.window) (open_windows h)

-- the numbers of the entries that a trim keeps, where h is the history as it reads
abbrev pub numbers_kept : List Entry → List Entry → List ℕ
numbers_kept h entries = map (λ e. e.number) (filter_before (is_kept h) entries)
