-- What of a history later answers rest on.
use Rattle.std.specs.Prelude.{Bool, true, false, List, [], ◌∷◌, ◌++◌, map, filter, if◌then◌else◌}
use Rattle.ns_roster.specs.Network.{Network}
use Rattle.ns_calls.specs.Out.{answer}
use Rattle.ns_calls.specs.Runs.{history_of}
use Rattle.ns_calls.specs.Headline.{IsLegalAfter}
use Rattle.ns_calls.specs.declared.call.Call.{Call}
use Rattle.ns_calls.specs.declared.call.Reply.{Reply}
use Rattle.ns_calls.specs.declared.call.Reply.TheVariants.{Opened, Again, Copied, Closed, Ask, JoinCopied, Accepted, JoinRefused, JoinStale}
use Rattle.ns_calls.specs.declared.call.Entry.{Entry}
use Rattle.ns_calls.specs.declared.answer.Answer.{Answer}

-- whether later answers rest on a call with this reply
abbrev pub matters : Reply → Bool
matters (Opened window) = true
matters (Again window) = true
matters (Copied window place) = true
matters (Closed window ack) = true
matters (Ask ticket) = true
matters (JoinCopied place) = true
matters (Accepted eui session addr) = true
matters JoinRefused = true
matters (JoinStale greatest) = true
matters _ = false

-- the calls of a history on which later answers rest, with their replies, in order. Numbers play no part
abbrev pub said : List Entry → List (Call × Reply)
said h = filter (λ s. matters s.1) (map (λ e. (e.call, e.reply)) h)

-- the calls alone: what a record has
abbrev pub recorded : List Entry → List Call
recorded h = map (λ s. s.0) (said h)

-- the answers to the recorded calls among these entries, where before are the entries before them
abbrev pub answers_told : Network → List Entry → List Entry → List Answer
answers_told net before [] = []
answers_told net before (e ∷ es) =
    let later = answers_told net (before ++ e ∷ []) es in if matters e.reply then answer net before e.call ∷ later else later

-- the entries of lives of the program, one after the other, each legal after the run of the calls that the record has of those before it
abbrev pub AreLives : Network → List Entry → List (List Entry) → Type 0
AreLives net before [] = Unit {0}
AreLives net before (life ∷ lives) = IsLegalAfter net (history_of net (recorded before)) life × AreLives net (before ++ life) lives

-- the entries of all lives
abbrev pub all_of : List (List Entry) → List Entry
all_of [] = []
all_of (life ∷ lives) = life ++ all_of lives
