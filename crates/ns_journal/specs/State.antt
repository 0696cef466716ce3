-- What a contract sees of a journal.
use Rattle.std.specs.Prelude.{◌≡◌, ℕ, Bool, not, ◌==◌, List, map, filter}
use Rattle.std.specs.List.{list_any}
use Rattle.ns_calls.specs.declared.call.Call.{Call}
use Rattle.ns_calls.specs.declared.call.Reply.{Reply}
use Rattle.ns_calls.specs.declared.call.Entry.{Entry}
use Rattle.ns_calls.specs.Legal.{entry_of}

-- how many entries were ever made, those that are kept, for how many more there is room, and how many of those places are reserved for
-- entries that may not be refused
pub record JournalState : Type 0 where
  pub made : ℕ
  pub entries : List Entry
  pub room : ℕ
  pub reserved : ℕ

-- the entry of a call and its reply, with the next number
abbrev pub next_entry : JournalState → Call → Reply → Entry
next_entry state call reply = entry_of state.made call reply

-- ---- the entries of these numbers, and the others

abbrev pub is_numbered : List ℕ → Entry → Bool
is_numbered numbers e = list_any (λ n. n == e.number) numbers

abbrev pub with_numbers : List ℕ → List Entry → List Entry
with_numbers numbers entries = filter (is_numbered numbers) entries

abbrev pub without_numbers : List ℕ → List Entry → List Entry
without_numbers numbers entries = filter (λ e. not (is_numbered numbers e)) entries

-- they are numbers of these entries, in order
abbrev pub AreNumbersOf : List Entry → List ℕ → Type 0
AreNumbersOf entries numbers = map (λ e. e.number) (with_numbers numbers entries) ≡ numbers
