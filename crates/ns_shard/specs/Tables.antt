-- The tables of a shard: its devices and its open windows, as a history tells them. A shard answers from these alone, so two histories with
-- the same tables, a long one and a short one, have the same answers from then on.
use Rattle.std.specs.Prelude.{◌≡◌, ℕ, List, [], ◌∷◌, map, flat_map, Option, None, Some}
use Rattle.std.specs.List.{AllByRecursion}
use Rattle.ns_types.specs.declared.identity.Key.{Key}
use Rattle.ns_types.specs.declared.heard.Heard.{Heard}
use Rattle.ns_roster.specs.declared.Device.{Device}
use Rattle.ns_roster.specs.Network.{Network}
use Rattle.ns_calls.specs.declared.call.Call.{Call}
use Rattle.ns_calls.specs.declared.call.JoinAns.{JoinAns}
use Rattle.ns_calls.specs.declared.call.Entry.{Entry}
use Rattle.ns_calls.specs.declared.answer.Answer.{Answer}
use Rattle.ns_calls.specs.Entries.{Opening, open_windows}
use Rattle.ns_calls.specs.History.{session_join, window_copies}
use Rattle.ns_calls.specs.Shards.{shard_of_call}
use Rattle.ns_calls.specs.Runs.{answers_after, history_after}
use Rattle.ns_calls.specs.Legal.{IsHistory}
use Rattle.ns_sessions.specs.Record.{device_record}
use Rattle.ns_windows.specs.declared.window.Window.{Window}
use Rattle.ns_devices.specs.declared.own.Own.{Own}
use Rattle.ns_devices.specs.Devices.{devices_of, own}

-- ---- the devices

-- a device of the roster, its address, and its record: the greatest nonce, the next session, the live sessions, and the open tickets
abbrev pub own_in : Network → List Entry → Device → Own
own_in net h d = own net (device_record net h d.eui) d

-- the devices of a shard, in the roster's order
abbrev pub devices_in : Network → ℕ → List Entry → List Own
devices_in net index h = map (own_in net h) (devices_of net index)

-- ---- the open windows

-- the keys that a join server's answer gives. Each open window's session has an answer
abbrev pub nwk_of : Option JoinAns → Key
nwk_of None = record { 0 = [] }
nwk_of (Some join) = join.nwk

abbrev pub app_of : Option JoinAns → Option Key
app_of None = None
app_of (Some join) = join.app

-- the window of an opening, with these copies and this join server's answer
abbrev pub window_from : Opening → List Heard → Option JoinAns → Window
window_from o copies join = record { name = o.window; frame = o.frame; copies = record { items = copies }; nwk = nwk_of join; app = app_of join }

-- the window of an opening: its name, its frame, its copies, and the keys of its session
abbrev pub window_of_opening : List Entry → Opening → Window
window_of_opening h o = window_from o (window_copies h o.window) (session_join h o.window.eui o.window.session)

-- the open windows, in the order of their opening
abbrev pub windows_in : List Entry → List Window
windows_in h = map (window_of_opening h) (open_windows h)

-- ---- two histories with the same tables

-- they tell the same of the devices of this shard and of the open windows
pub record TellTheSame (net : Network) (index : ℕ) (g h : List Entry) : Type 0 where
  pub devices : devices_in net index g ≡ devices_in net index h
  pub windows : windows_in g ≡ windows_in h

-- ---- lives of the program

-- A life of the program, as one shard has it: the history with which it begins, that a start made, and the calls that it took.
pub record Life : Type 0 where
  pub start : List Entry
  pub calls : List Call

-- The lives of the program, one after the other, where before is the history at the end of the life before the first of them. Each begins
-- with a history of the shard that tells the same as the one at the end of the life before it, and takes calls of the shard.
abbrev pub AreLives : Network → ℕ → List Entry → List Life → Type 0
AreLives net index before [] = Unit {0}
AreLives net index before (life ∷ lives) =
    IsHistory net index life.start
    × TellTheSame net index before life.start
    × AllByRecursion (λ c. shard_of_call c ≡ index) life.calls
    × AreLives net index (history_after net life.start life.calls) lives

-- the calls of all lives, and the answers that these gave
abbrev pub calls_of : List Life → List Call
calls_of lives = flat_map (λ life. life.calls) lives

abbrev pub answers_of_lives : Network → List Life → List Answer
answers_of_lives net lives = flat_map (λ life. answers_after net life.start life.calls) lives
