-- What is known of devices.
use Rattle.std.specs.Prelude.{ℕ, ◌+◌, ◌-◌, ◌==◌, ◌^◌, ◌||◌, Bool, false, nat_lt, nat_le, min, max, List, [], ◌∷◌, position, Option, Some, None, option_map, if◌then◌else◌}
use Rattle.std.specs.Map.{lookup, keys_of}
use Rattle.std.specs.Option.{option_map_or}
use Rattle.ns_types.specs.declared.identity.DevEui.{DevEui}
use Rattle.ns_types.specs.declared.identity.DevAddr.{DevAddr}
use Rattle.ns_roster.specs.declared.Device.{Device as roster_device}
use Rattle.ns_status.specs.declared.news.News.{News}
use Rattle.ns_status.specs.declared.news.News.TheVariants.{Joined, Heard}
use Rattle.ns_status.specs.declared.devices.HeardBy.{HeardBy}
use Rattle.ns_status.specs.declared.devices.Device.{Device}

-- a device whose session begins, and when it was heard last before
abbrev pub fresh : ℕ → DevAddr → ℕ → Option HeardBy → Device
fresh session addr now heard = record { session = session; addr = addr; since_ms = Some now; counters = 0; fcnt = None; heard = heard }

-- what is known once a session is told of: a later one begins, and of an earlier one nothing changes
abbrev pub renewed : Option Device → ℕ → DevAddr → ℕ → Device
renewed None session addr now = fresh session addr now None
renewed (Some d) session addr now = if nat_lt d.session session then fresh session addr now d.heard else d

-- what is known once a frame of the session was heard: its counter is counted where it is new
abbrev pub with_frame : Device → ℕ → Bool → HeardBy → Device
with_frame d fcnt is_new heard = record d { counters = min (d.counters + (if is_new then 1 else 0)) (2 ^ 32 - 1); fcnt = Some (option_map_or (λ before. max before fcnt) d.fcnt fcnt); heard = Some heard }

-- what is known after news of the device. A frame of another session than the last one tells nothing
abbrev pub after_news : Option Device → News → ℕ → Device
after_news before (Joined eui session addr) now = renewed before session addr now
after_news before (Heard window addr gateway is_new) now =
    let d = renewed before window.session addr now in
    if d.session == window.session then with_frame d window.fcnt is_new (record { at_ms = now; gateway = gateway }) else d

-- the same, of a device of the roster
abbrev pub noted : News → ℕ → Option Device → Option Device
noted news now before = Some (after_news before news now)

-- a device as the record leaves it: its session began before the server did, it was heard last at an unknown time, and what was missed before is
-- not known, so all counters up to the greatest count as heard
abbrev pub all_up_to : Option ℕ → ℕ
all_up_to None = 0
all_up_to (Some fcnt) = min (fcnt + 1) (2 ^ 32 - 1)

abbrev pub before_start : Device → Device
before_start d = record d { since_ms = None; counters = all_up_to d.fcnt; heard = None }

abbrev pub recalled : Option Device → News → Device
recalled before news = before_start (after_news before news 0)

abbrev pub recalled_row : News → Option Device → Option Device
recalled_row news before = Some (recalled before news)

-- whether a device was heard at this time or later
abbrev pub heard_at_or_after : ℕ → Option HeardBy → Bool
heard_at_or_after from None = false
heard_at_or_after from (Some heard) = nat_le from heard.at_ms

abbrev pub is_heard_since : ℕ → Device → Bool
is_heard_since from d = heard_at_or_after from d.heard

abbrev pub is_row_heard_since : ℕ → Option Device → Bool
is_row_heard_since from None = false
is_row_heard_since from (Some d) = is_heard_since from d

-- how long ago a device was last heard, and the sum of that over all devices that were heard since the server began, in 64 bits
abbrev pub since_heard : ℕ → Option HeardBy → ℕ
since_heard now None = 0
since_heard now (Some heard) = now - heard.at_ms

abbrev pub age_of : ℕ → Option Device → ℕ
age_of now None = 0
age_of now (Some d) = since_heard now d.heard

abbrev pub ages_with : ℕ → ℕ → List (DevEui × Option Device) → ℕ
ages_with now sum [] = sum
ages_with now sum (row ∷ rows) = ages_with now (min (sum + age_of now row.1) (2 ^ 64 - 1)) rows

-- or its session began then
abbrev pub began_at_or_after : ℕ → Option ℕ → Bool
began_at_or_after from None = false
began_at_or_after from (Some since) = nat_le from since

abbrev pub changed_since : ℕ → Device → Bool
changed_since from d = began_at_or_after from d.since_ms || is_heard_since from d

-- how many counters of the session, from 0 to the greatest that was heard, were not counted as new
abbrev pub missed_of : Option ℕ → ℕ → ℕ
missed_of None counters = 0
missed_of (Some fcnt) counters = (fcnt + 1) - counters

abbrev pub missed : Device → ℕ
missed d = missed_of d.fcnt d.counters

-- the device of news
abbrev pub eui_of : News → DevEui
eui_of (Joined eui session addr) = eui
eui_of (Heard window addr gateway is_new) = window.eui

-- the row of a device of the roster that has not joined
abbrev pub not_joined : roster_device → DevEui × Option Device
not_joined device = (device.eui, None)

-- what is known of a device, where it is of the roster
abbrev pub row_of : List (DevEui × Option Device) → DevEui → Option (Option Device)
row_of rows eui = lookup (λ other. eui.0 == other.0) rows

-- the place of a device, where it is of the roster
abbrev pub place_of : List (DevEui × Option Device) → DevEui → Option ℕ
place_of rows eui = position (λ other. eui.0 == other.0) (keys_of rows)
