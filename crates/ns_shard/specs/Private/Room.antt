-- The room of entries: from the one that opens a window or asks for a ticket to the one that ends it, room is reserved for the latter.
use Rattle.std.specs.Prelude.{ℕ, ◌+◌, ◌-◌, ◌<◌, ◌≤◌, Bool, ◌||◌, List, length, is_some, if◌then◌else◌}
use Rattle.ns_calls.specs.declared.call.Call.{Call}
use Rattle.ns_calls.specs.declared.call.Reply.{Reply}
use Rattle.ns_calls.specs.declared.call.Entry.{Entry}
use Rattle.ns_calls.specs.Entries.{said, opened, open_windows}
use Rattle.ns_calls.specs.History.{asked, open_tickets}
use Rattle.ns_journal.specs.State.{JournalState}
use Rattle.ns_shard.specs.declared.event.Event.{Event}
use Rattle.ns_shard.specs.declared.event.Event.TheVariants.{Quiet, Opened, Ended}
use Rattle.ns_shard.specs.declared.room.Room.{Room}
use Rattle.ns_shard.specs.declared.room.Room.TheVariants.{Free, Reserving, Reserved}

-- whether the entry of a call and its reply opens a window, or asks for a ticket
abbrev pub opens : Call → Reply → Bool
opens call reply = is_some (opened (said call reply)) || is_some (asked (said call reply))

-- what came of an uplink or a Join-Request that has this reply
abbrev pub opening_event : Call → Reply → Event
opening_event call reply = if opens call reply then Opened reply else Quiet reply

-- how many windows and tickets are open
abbrev pub open_total : List Entry → ℕ
open_total h = length (open_windows h) + length (open_tickets h)

-- what the entry of an event does to the room of those to come
abbrev pub room_of : Event → Room
room_of (Quiet reply) = Free
room_of (Opened reply) = Reserving
room_of (Ended what) = Reserved

-- there is room for the entry, and for the one that ends what it opens
abbrev pub IsRoomFor : Room → JournalState → Type 0
IsRoomFor Free j = j.reserved < j.room
IsRoomFor Reserving j = j.reserved + 2 ≤ j.room
IsRoomFor Reserved j = 0 < j.reserved

-- how many places are reserved after it
abbrev pub reserved_after : Room → ℕ → ℕ
reserved_after Free n = n
reserved_after Reserving n = n + 1
reserved_after Reserved n = n - 1
