-- Legality as a test: two replies are compared field by field.
use Rattle.std.specs.Prelude.{ℕ, Bool, true, false, ◌&&◌, ◌==◌, List, [], ◌∷◌, ◌++◌, Option, None, Some, bytes_eq}
use Rattle.ns_types.specs.Identity.{same_window}
use Rattle.ns_roster.specs.Network.{Network}
use Rattle.ns_calls.specs.declared.call.Reply.{Reply}
use Rattle.ns_calls.specs.declared.call.Reply.TheVariants.{Opened, Copied, Crowded, Old, NoSession, Busy, Ask, JoinCopied, JoinCrowded, NonceOld, NoDevice, JoinBusy, Accepted, JoinRefused, JoinStale, NoTicket, Closed, NoWindow, Again}
use Rattle.ns_calls.specs.declared.call.Entry.{Entry}
use Rattle.ns_calls.specs.Reply.{reply_to}

abbrev pub same_number : Option ℕ → Option ℕ → Bool
same_number None None = true
same_number (Some m) (Some n) = m == n
same_number _ _ = false

-- whether two replies are the same
abbrev pub same_reply : Reply → Reply → Bool
same_reply (Opened v) (Opened w) = same_window v w
same_reply (Copied v m) (Copied w n) = same_window v w && (m == n)
same_reply (Crowded v) (Crowded w) = same_window v w
same_reply (Old d s m) (Old e t n) = (d.0 == e.0) && (s == t) && (m == n)
same_reply NoSession NoSession = true
same_reply (Busy d) (Busy e) = d.0 == e.0
same_reply (Ask t) (Ask u) = bytes_eq t.0 u.0
same_reply (JoinCopied m) (JoinCopied n) = m == n
same_reply JoinCrowded JoinCrowded = true
same_reply (NonceOld m) (NonceOld n) = m.0 == n.0
same_reply NoDevice NoDevice = true
same_reply JoinBusy JoinBusy = true
same_reply (Accepted d s a) (Accepted e t b) = (d.0 == e.0) && (s == t) && (a.0 == b.0)
same_reply JoinRefused JoinRefused = true
same_reply (JoinStale m) (JoinStale n) = m.0 == n.0
same_reply NoTicket NoTicket = true
same_reply (Closed v m) (Closed w n) = same_window v w && same_number m n
same_reply NoWindow NoWindow = true
same_reply (Again v) (Again w) = same_window v w
same_reply _ _ = false

-- whether these entries are legal, where before are the entries before them
abbrev pub is_legal_after : Network → List Entry → List Entry → Bool
is_legal_after net before [] = true
is_legal_after net before (e ∷ es) = same_reply e.reply (reply_to net before e.call) && is_legal_after net (before ++ e ∷ []) es

-- whether a history is legal
abbrev pub is_legal : Network → List Entry → Bool
is_legal net h = is_legal_after net [] h
