-- What rises in a history, and what opens and closes once.
use Rattle.std.specs.Prelude.{◌≡◌, ℕ, ◌+◌, ◌<◌, ◌≤◌, Bool, false, List, [], ◌∷◌, map, filter_map, count_by}
use Rattle.std.specs.List.{AllByRecursion}
use Rattle.ns_types.specs.declared.identity.DevEui.{DevEui}
use Rattle.ns_types.specs.declared.identity.WindowName.{WindowName}
use Rattle.ns_types.specs.Identity.{same_window, is_first}
use Rattle.ns_types.specs.Ticket.{nonce}
use Rattle.ns_calls.specs.declared.call.Reply.{Reply}
use Rattle.ns_calls.specs.declared.call.Reply.TheVariants.{Closed}
use Rattle.ns_calls.specs.declared.call.Entry.{Entry}
use Rattle.ns_calls.specs.Entries.{acceptances, session_counters, says, opened, closed, open_windows}

-- each number is greater than all before it
abbrev pub Rises : List ℕ → Type 0
Rises [] = Unit {0}
Rises (n ∷ ns) = AllByRecursion (λ m. n < m) ns × Rises ns

-- the nonces that are accepted of a device, in order
abbrev pub nonces_of : List Entry → DevEui → List ℕ
nonces_of h eui = map (λ a. (nonce a.ticket).0) (acceptances h eui)

-- these strictly rise, so none is accepted twice
abbrev pub NoncesRise : List Entry → Type 0
NoncesRise h = (eui : DevEui) → Rises (nonces_of h eui)

-- the counters that are opened in a session of a device strictly rise
abbrev pub CountersRise : List Entry → Type 0
CountersRise h = (eui : DevEui) (session : ℕ) → Rises (session_counters h eui session)

-- how many entries open a window of this name, how many close it, and how many such windows are open
abbrev pub opening_count : List Entry → WindowName → ℕ
opening_count h w = count_by (λ o. same_window o.window w) (filter_map (says opened) h)

abbrev pub closing_count : List Entry → WindowName → ℕ
closing_count h w = count_by (λ c. same_window c.window w) (filter_map (says closed) h)

abbrev pub open_count : List Entry → WindowName → ℕ
open_count h w = count_by (λ o. same_window o.window w) (open_windows h)

-- a name opens at most once, and closes at most once: it is open from its opening to its closing
pub record WindowsOpenOnce (h : List Entry) : Type 0 where
  pub opens : (w : WindowName) → opening_count h w ≤ 1
  pub closes : (w : WindowName) → closing_count h w + open_count h w ≡ opening_count h w

-- with which replies an uplink goes out
abbrev pub hands_out_uplink : Reply → Bool
hands_out_uplink (Closed window ack) = is_first window
hands_out_uplink _ = false
