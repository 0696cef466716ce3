-- What goes out of a window that was closed.
use Rattle.std.specs.Prelude.{Option}
use Rattle.ns_types.specs.Cases.{when}
use Rattle.ns_types.specs.Identity.{is_first}
use Rattle.ns_views.specs.Frame.{data_fields}
use Rattle.ns_calls.specs.declared.answer.Uplink.{Uplink}
use Rattle.ns_calls.specs.Out.{payload_key, uplink_under}
use Rattle.ns_windows.specs.declared.window.Window.{Window}

-- its frame, deciphered where the key of its port is known, and its copies
abbrev pub uplink_from : Window → Uplink
uplink_from w = uplink_under w.name w.frame w.copies.items (payload_key (data_fields w.frame).port w.nwk w.app)

-- the uplink goes out with the first window of its rounds
abbrev pub first_uplink_from : Window → Option Uplink
first_uplink_from w = when (is_first w.name) (uplink_from w)
