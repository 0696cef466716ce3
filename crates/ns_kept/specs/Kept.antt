-- A history that was trimmed: how it reads, and what a trim keeps.
use Rattle.std.specs.Prelude.{ℕ, nat_le, Bool, false, not, ◌&&◌, ◌||◌, ◌==◌, List, [], ◌∷◌, ◌++◌, map, filter_map, Option, None, Some, is_some, if◌then◌else◌}
use Rattle.std.specs.List.{list_any}
use Rattle.std.specs.Option.{option_map_or, option_and_then}
use Rattle.ns_types.specs.Cases.{when}
use Rattle.ns_types.specs.declared.identity.WindowName.{WindowName}
use Rattle.ns_types.specs.declared.heard.Heard.{Heard}
use Rattle.ns_types.specs.declared.ticket.Ticket.{Ticket}
use Rattle.ns_types.specs.Identity.{same_window}
use Rattle.ns_calls.specs.declared.call.Call.TheVariants as call
use Rattle.ns_calls.specs.declared.call.Reply.TheVariants as reply
use Rattle.ns_calls.specs.declared.call.Entry.{Entry}
use Rattle.ns_calls.specs.Entries.{still_open, Acceptance, Opening, Closing, Said, OpensAgain, said, says, accepted, first_opened, opened, closed, closes, same_device, open_windows}
use Rattle.ns_calls.specs.History.{copied, join_copied, asks_for, is_live, open_window, is_ticket_open}

-- What a trim leaves, and the entries made since. The mark is the number of the first entry made since, and the windows are those that
-- were open at the trim.
pub record Remains : Type 0 where
  pub mark : ℕ
  pub windows : List WindowName
  pub entries : List Entry

-- a history that was never trimmed
abbrev pub whole : List Entry → Remains
whole h = record { mark = 0; windows = []; entries = h }

-- ---- how it reads: an opening below the mark counts as open only where its window is named, so any other is read with its closing

-- a closing with no acknowledgement
abbrev pub closing_entry : ℕ → WindowName → Entry
closing_entry number w = record { number = number; call = call.Close w; reply = reply.Closed w None }

-- whether an opening with this number counts as open
abbrev pub counts : ℕ → List WindowName → ℕ → WindowName → Bool
counts mark windows number w = nat_le mark number || list_any (same_window w) windows

-- the closing with which an opening is read, where it does not count as open
abbrev pub closing_of : ℕ → List WindowName → ℕ → Option Opening → List Entry
closing_of mark windows number None = []
closing_of mark windows number (Some o) = if counts mark windows number o.window then [] else closing_entry number o.window ∷ []

abbrev pub with_closings : ℕ → List WindowName → List Entry → List Entry
with_closings mark windows [] = []
with_closings mark windows (e ∷ es) = e ∷ closing_of mark windows e.number (says opened e) ++ with_closings mark windows es

-- the entries as they read: with a closing behind each opening below the mark whose window is not named
abbrev pub reading : Remains → List Entry
reading k = with_closings k.mark k.windows k.entries

-- The same in words of openings: those that count as open, and of them those that no entry after them closes. In every kept history
-- whose numbers rise these are the open windows of what is read.
abbrev pub counted_opening : Remains → Entry → Option Opening
counted_opening k e = option_and_then (λ o. when (counts k.mark k.windows e.number o.window) o) (says opened e)

-- the windows that these open and that no entry after them closes
abbrev pub counted_windows : Remains → List Opening
counted_windows k = still_open (counted_opening k) (λ o e. closes o.window e) k.entries

-- ---- what a trim keeps. In each test h is the history as it reads, and after are the entries after this one

-- the window of a later round
abbrev pub repeated : Said → Option Opening
repeated (OpensAgain o) = Some o
repeated _ = None

-- whether no entry says such a thing
abbrev pub none_says : {Y : Type 0} → (Said → Option Y) → (Y → Bool) → List Entry → Bool
none_says part test es = not (list_any test (filter_map (says part) es))

abbrev pub same_session : WindowName → WindowName → Bool
same_session v w = same_device v.eui w.eui && (v.session == w.session)

-- the last acceptance of its device, and those of live sessions and of sessions with open windows
abbrev pub keeps_acceptance : List Entry → List Entry → Acceptance → Bool
keeps_acceptance h after a =
    none_says accepted (λ b. same_device b.eui a.eui) after
    || is_live h a.eui a.session
    || list_any (λ o. same_device o.window.eui a.eui && (o.window.session == a.session)) (open_windows h)

-- the last opening of its device, and the last of each live session
abbrev pub keeps_opening : List Entry → List Entry → Opening → Bool
keeps_opening h after o =
    none_says first_opened (λ p. same_device p.window.eui o.window.eui) after
    || (is_live h o.window.eui o.window.session && none_says first_opened (λ p. same_session p.window o.window) after)

-- the last window that was opened again of each live session
abbrev pub keeps_repetition : List Entry → List Entry → Opening → Bool
keeps_repetition h after o = is_live h o.window.eui o.window.session && none_says repeated (λ p. same_session p.window o.window) after

-- the last acknowledging closing of each live session
abbrev pub keeps_closing : List Entry → List Entry → Closing → Bool
keeps_closing h after c =
    is_some c.ack && is_live h c.window.eui c.window.session && none_says closed (λ d. is_some d.ack && same_session d.window c.window) after

-- the opening and the copies of each open window, of any round
abbrev pub keeps_window_copy : List Entry → WindowName × Heard → Bool
keeps_window_copy h c = is_some (open_window h c.0)

-- the last asking for each open ticket, and its copies since
abbrev pub keeps_ticket_copy : List Entry → List Entry → Ticket × Heard → Bool
keeps_ticket_copy h after c = is_ticket_open h c.0 && not (list_any (asks_for c.0) after)

-- whether an entry is kept, by what it says
abbrev pub keeps_said : List Entry → Said → List Entry → Bool
keeps_said h s after =
    option_map_or (keeps_acceptance h after) (accepted s) false
    || option_map_or (keeps_opening h after) (first_opened s) false
    || option_map_or (keeps_repetition h after) (repeated s) false
    || option_map_or (keeps_closing h after) (closed s) false
    || option_map_or (keeps_window_copy h) (copied s) false
    || option_map_or (keeps_ticket_copy h after) (join_copied s) false

abbrev pub is_kept : List Entry → Entry → List Entry → Bool
is_kept h e after = keeps_said h (said e.call e.reply) after

-- the elements that pass a test on them and on what is after them, in order
abbrev pub filter_before : {E : Type 0} → (E → List E → Bool) → List E → List E
filter_before test [] = []
filter_before test (x ∷ xs) = if test x xs then x ∷ filter_before test xs else filter_before test xs

-- a trim after so many entries were made
abbrev pub keep : ℕ → Remains → Remains
keep made k = record { mark = made; windows = map (λ o. o.window) (open_windows (reading k)); entries = filter_before (is_kept (reading k)) k.entries }
