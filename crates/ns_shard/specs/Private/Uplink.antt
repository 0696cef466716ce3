-- What comes of an uplink with a reply, and what it leaves.
use Rattle.std.specs.Prelude.{◌≡◌, ℕ, true, List, Result, Ok, Err}
use Rattle.std.specs.declared.alloc.AllocError.{AllocError}
use Rattle.ns_types.specs.declared.heard.Heard.{Heard}
use Rattle.ns_calls.specs.declared.call.Call.TheVariants.{Uplink}
use Rattle.ns_calls.specs.declared.call.Reply.{Reply}
use Rattle.ns_windows.specs.declared.window.Window.{Window}
use Rattle.ns_devices.specs.declared.own.Own.{Own}
use Rattle.ns_shard.specs.declared.event.Event.{Event}
use Rattle.ns_shard.specs.Private.Reaction.{with_shard_uplink, with_copy_or_window}
use Rattle.ns_shard.specs.Private.Room.{opens, opening_event}

-- it is taken: what comes of it has this reply, and these are the devices and windows after it
pub record IsTaken (frame : List ℕ) (heard : Heard) (own : List Own) (held : List Window) (reply : Reply) (what : Event) (own_after : List Own) (held_after : List Window) : Type 0 where
  pub event : what ≡ opening_event (Uplink frame heard) reply
  pub devices : own_after ≡ with_shard_uplink reply own
  pub windows : held_after ≡ with_copy_or_window reply frame heard own held

-- it is refused: a growth was, for what it opens, and nothing has changed
pub record IsRefused (frame : List ℕ) (heard : Heard) (own : List Own) (held : List Window) (reply : Reply) (own_after : List Own) (held_after : List Window) : Type 0 where
  pub memory : opens (Uplink frame heard) reply ≡ true
  pub devices : own_after ≡ own
  pub windows : held_after ≡ held

abbrev pub UplinkEnds : List ℕ → Heard → List Own → List Window → Reply → Result Event AllocError → List Own → List Window → Type 0
UplinkEnds frame heard own held reply (Ok what) own_after held_after = IsTaken frame heard own held reply what own_after held_after
UplinkEnds frame heard own held reply (Err _) own_after held_after = IsRefused frame heard own held reply own_after held_after
