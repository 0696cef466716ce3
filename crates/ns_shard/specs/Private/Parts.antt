-- The parts of a shard agree: what it keeps of its devices and windows is what its entries tell.
use Rattle.std.specs.Prelude.{◌≡◌, ℕ, ◌<◌, List, length}
use Rattle.std.specs.Arc.{arc_value}
use Rattle.ns_types.specs.Identity.{shard_count}
use Rattle.ns_roster.specs.Network.{Network}
use Rattle.ns_roster.specs.Valid.{IsRoster}
use Rattle.ns_calls.specs.declared.call.Entry.{Entry}
use Rattle.ns_calls.specs.declared.call.Call.{Call}
use Rattle.ns_calls.specs.Legal.{IsHistory, with_call}
use Rattle.ns_windows.specs.declared.window.Window.{Window}
use Rattle.ns_devices.specs.declared.own.Own.{Own}
use Rattle.ns_shard.specs.declared.parts.Parts.{Parts}
use Rattle.ns_shard.specs.declared.event.Event.{Event}
use Rattle.ns_shard.specs.State.{State, Keeps, answer_in}
use Rattle.ns_shard.specs.Private.Sending.{answer_of}
use Rattle.ns_shard.specs.Private.Room.{open_total, room_of, IsRoomFor, reserved_after}
use Rattle.ns_shard.specs.Tables.{windows_in, devices_in}

-- these devices and windows are those that the history tells, and it is one of the shard
pub record Agrees (net : Network) (index : ℕ) (h : List Entry) (devices : List Own) (windows : List Window) : Type 0 where
  pub valid : IsRoster net
  pub history : IsHistory net index h
  pub by_device : devices ≡ devices_in net index h
  pub by_window : windows ≡ windows_in h

abbrev pub state_of : Parts → State
state_of p = record { roster = arc_value p.roster; index = p.index; made = p.journal.made; mark = p.mark; windows = p.named.items; entries = p.journal.entries }

-- The history is every entry that was made. What is left of it stands in the journal, and the devices and windows are those that it
-- tells. The journal has room for one more entry for each open window and each open ticket.
pub record AreParts (p : Parts) : Type 0 where
  pub small : p.index < shard_count
  pub history : List Entry
  pub keeps : Keeps history (state_of p)
  pub agrees : Agrees (arc_value p.roster) p.index history p.devices p.windows
  pub reserved : p.journal.reserved ≡ open_total history

-- The parts after a call, before its entry: the devices and windows are those that the history tells with the entry, which the journal has
-- room for, and what came of the call is the plain server's answer.
pub record AreTaken (p : Parts) (call : Call) (event : Event) : Type 0 where
  pub small : p.index < shard_count
  pub history : List Entry
  pub keeps : Keeps history (state_of p)
  pub agrees : Agrees (arc_value p.roster) p.index (with_call (arc_value p.roster) history (length history) call) p.devices p.windows
  pub answer : answer_of (arc_value p.roster) event ≡ answer_in (state_of p) call
  pub room : IsRoomFor (room_of event) p.journal
  pub reserved : reserved_after (room_of event) p.journal.reserved ≡ open_total (with_call (arc_value p.roster) history (length history) call)
