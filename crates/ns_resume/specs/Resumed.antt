-- What a record leaves: the shards after the steps of its whole lines, and the `up` lines that go on from those that are there.
use Rattle.std.specs.Prelude.{◌≡◌, ℕ, ◌+◌, ◌≤◌, Bool, false, true, List, [], ◌++◌, length, map, flat_map, count_by, drop, Option, None, Some, IfSome}
use Rattle.std.specs.List.{AllByRecursion, list_any}
use Rattle.std.specs.Option.{option_map_or}
use Rattle.std.specs.Io.KnownBytes.{Consumes}
use Rattle.ns_types.specs.Identity.{same_window}
use Rattle.ns_types.specs.declared.identity.WindowName.{WindowName}
use Rattle.ns_types.specs.declared.ticket.Ticket.{Ticket}
use Rattle.ns_roster.specs.Network.{Network}
use Rattle.ns_calls.specs.declared.call.Entry.{Entry}
use Rattle.ns_calls.specs.Entries.{open_windows}
use Rattle.ns_calls.specs.History.{same_ticket, is_ticket_open}
use Rattle.ns_lines.specs.Text.{up_text, has_line_feed}
use Rattle.ns_recorded.specs.Recorded.{matters}
use Rattle.ns_acts.specs.declared.step.Act.{Act}
use Rattle.ns_acts.specs.declared.step.Step.{Step}
use Rattle.ns_runs.specs.declared.run.Taken.{Taken}
use Rattle.ns_runs.specs.declared.run.Taken.TheVariants.{Link, View, Made}
use Rattle.ns_shard.specs.State.{State, seen, open_tickets_in}
use Rattle.ns_runs.specs.KeptSteps.{AreKeptFrom}
use Rattle.ns_runs.specs.Steps.{step_taken_from, all_taken_from, no_starts}
use Rattle.ns_steps.specs.StepLines.{ended, step, step_of}
use Rattle.ns_resume.specs.declared.fault.RecordFault.{RecordFault}
use Rattle.ns_resume.specs.declared.fault.RecordFault.TheVariants.{NoStep, NoFit}
use Rattle.ns_resume.specs.declared.run.Resumed.{Resumed}
use Rattle.ns_resume.specs.declared.head.RecordHead.{RecordHead}
use Rattle.ns_resume.specs.Head.{head_text, first_number, lines_before, ups_before, AreStarts}

-- the text is all that a source has, where that tells it
abbrev pub IsAllOf : Option (List ℕ) → List ℕ → Type 0
IsAllOf known text = IfSome known (λ bytes. bytes ≡ text)

-- the text is these lines, each with its line feed, and then what is torn
pub record IsCut (text : List ℕ) (lines : List (List ℕ)) (torn : List ℕ) : Type 0 where
  pub joined : text ≡ flat_map ended lines ++ torn
  pub whole : AllByRecursion (λ line. has_line_feed line ≡ false) lines
  pub no_feed : has_line_feed torn ≡ false

-- each line is a step line, and these are its steps
abbrev pub AreStepsOf : List (List ℕ) → List Step → Type 0
AreStepsOf lines steps = map step lines ≡ map (λ s. Some s.act) steps

-- whether it made a call on which later answers rest
abbrev pub fits : Taken → Bool
fits (Link fault) = false
fits (View fault) = false
fits (Made shard number answer) = matters answer.reply

-- each step made such a call, where each shard has one of these histories before them
abbrev pub AllFitFrom : Network → (ℕ → List Entry) → List Step → Type 0
AllFitFrom net starts steps = AllByRecursion (λ t. fits t ≡ true) (all_taken_from net starts [] steps)

-- the same of steps before which no shard has an entry
abbrev pub AllFit : Network → List Step → Type 0
AllFit net steps = AllFitFrom net no_starts steps

-- the `up` line of what came of a step, with its line feed, where an uplink goes out
abbrev pub up_of : Taken → List ℕ
up_of (Link fault) = []
up_of (View fault) = []
up_of (Made shard number answer) = option_map_or (λ u. ended (up_text u)) answer.uplink []

-- the `up` lines of a run of steps, but those of so many first ones, where each shard has one of these histories before them
abbrev pub ups_since_from : Network → (ℕ → List Entry) → ℕ → List Step → List ℕ
ups_since_from net starts before steps = flat_map up_of (drop before (all_taken_from net starts [] steps))

-- the same of steps before which no shard has an entry
abbrev pub ups_since : Network → ℕ → List Step → List ℕ
ups_since net before steps = ups_since_from net no_starts before steps

-- What is there of these `up` lines ends with so many bytes of a torn one, with which the missing lines begin.
pub record AreUps (there ups missing : List ℕ) (torn : ℕ) : Type 0 where
  pub front : List ℕ
  pub rest : List ℕ
  pub more : List ℕ
  pub are_there : there ≡ front ++ rest
  pub are_all : ups ≡ front ++ missing
  pub begins : missing ≡ rest ++ more
  pub bytes : length rest ≡ torn

-- The step lines of this text leave these shards, where each has one of these histories before them. Beside this text of `up` lines these
-- are missing, where so many first lines imply none.
pub record HasRunFrom (net : Network) (starts : ℕ → List Entry) (before : ℕ) (text there : List ℕ) (r : Resumed) : Type 0 where
  pub lines : List (List ℕ)
  pub torn : List ℕ
  pub cut : IsCut text lines torn
  pub torn_bytes : r.torn ≡ length torn
  pub many : r.lines ≡ length lines
  pub enough : before ≤ length lines
  pub steps : List Step
  pub are_steps : AreStepsOf lines steps
  pub fit : AllFitFrom net starts steps
  pub shards : AreKeptFrom net starts steps r.shards.items
  pub ups : AreUps there (ups_since_from net starts before steps) r.missing.items r.up_torn

-- the same where no shard has an entry before them
abbrev pub HasRunAll : Network → ℕ → List ℕ → List ℕ → Resumed → Type 0
HasRunAll net before text there r = HasRunFrom net no_starts before text there r

-- The record of this text, beside this text of `up` lines, leaves these shards, and these `up` lines are missing. It begins with a head,
-- before which so many first bytes of the `up` lines were written, and with histories that tell the tables of the head's checkpoint. Without a
-- checkpoint no shard has an entry before the first step line.
pub record IsResumed (net : Network) (text there : List ℕ) (r : Resumed) : Type 0 where
  pub head : RecordHead
  pub lines : List ℕ
  pub is_text : text ≡ head_text head ++ lines
  pub starts : ℕ → List Entry
  pub begun : AreStarts net head starts
  pub earlier : List ℕ
  pub later : List ℕ
  pub are_there : there ≡ earlier ++ later
  pub earlier_bytes : length earlier ≡ ups_before head
  pub run : HasRunFrom net starts (lines_before head) lines later r

-- ---- what is open

-- the names of the open windows of shards, shard by shard, in the order of their opening
abbrev pub windows_in : List State → List WindowName
windows_in shards = flat_map (λ s. map (λ o. o.window) (open_windows (seen s))) shards

-- the open tickets that shards name, shard by shard
abbrev pub tickets_in : List State → List Ticket
tickets_in shards = flat_map open_tickets_in shards

-- These are exactly the windows that are open in the shards, each once, and the tickets that wait there for an answer.
pub record AreOpenIn (shards : List State) (windows : List WindowName) (tickets : List Ticket) : Type 0 where
  pub are_windows : windows ≡ windows_in shards
  pub each_once : (w : WindowName) → count_by (λ v. same_window v w) windows ≤ 1
  pub are_tickets : tickets ≡ tickets_in shards
  pub each_waits : (t : Ticket) → list_any (same_ticket t) tickets ≡ list_any (λ s. is_ticket_open (seen s) t) shards

-- ---- why a run ends early

-- The steps of these lines, with which the text begins, fit, and the line behind them has this number and is refused so. The first line has
-- the first number, and each shard has one of these histories before it.
pub record StopsAt (net : Network) (starts : ℕ → List Entry) (first : ℕ) (known : Option (List ℕ)) (number : ℕ) (IsRefused : List Step → List ℕ → Type 0) : Type 0 where
  pub lines : List (List ℕ)
  pub line : List ℕ
  pub begins : IfSome known (λ text. (rest : List ℕ) × (text ≡ flat_map ended lines ++ (ended line ++ rest)))
  pub steps : List Step
  pub are_steps : AreStepsOf lines steps
  pub fit : AllFitFrom net starts steps
  pub numbered : length lines + first ≡ number
  pub refused : IsRefused steps line

-- the line is no step line
abbrev pub IsNoStep : List Step → List ℕ → Type 0
IsNoStep steps line = step line ≡ None

-- the line is a step line, and its step makes no call after these steps, or one on which no later answer rests
abbrev pub DoesNotFit : Network → (ℕ → List Entry) → List Step → List ℕ → Type 0
DoesNotFit net starts steps line = (act : Act) × (step line ≡ Some act) × (fits (step_taken_from net starts steps (step_of act)) ≡ false)

-- the fault names the first line that is refused, where the first line has this number
abbrev pub NamesLineFrom : Network → (ℕ → List Entry) → ℕ → Option (List ℕ) → RecordFault → Type 0
NamesLineFrom net starts first known (NoStep n) = StopsAt net starts first known n IsNoStep
NamesLineFrom net starts first known (NoFit n) = StopsAt net starts first known n (DoesNotFit net starts)
NamesLineFrom net starts first known _ = Unit {0}

-- The fault names the first step line that is refused, after the head of the record, or, as if there were no head, its first line. The shards
-- can have these histories before it.
pub record NamesLineOf (net : Network) (known : Option (List ℕ)) (e : RecordFault) : Type 0 where
  pub head : RecordHead
  pub starts : ℕ → List Entry
  pub begun : AreStarts net head starts
  pub rest : Option (List ℕ)
  pub consumed : Consumes known rest (head_text head)
  pub names : NamesLineFrom net starts (first_number head) rest e

abbrev pub NamesLine : Network → Option (List ℕ) → RecordFault → Type 0
NamesLine net known e = NamesLineOf net known e
