-- What a history leaves: a trim of its first entries, and the others.
use Rattle.std.specs.Prelude.{◌≡◌, ℕ, ◌+◌, ◌≤◌, List, [], ◌∷◌, ◌++◌, length, take, drop, filter_map, slice_get, Option, None, Some}
use Rattle.ns_roster.specs.Network.{Network}
use Rattle.ns_calls.specs.declared.call.Call.{Call}
use Rattle.ns_calls.specs.declared.call.Entry.{Entry}
use Rattle.ns_calls.specs.declared.answer.Answer.{Answer}
use Rattle.ns_calls.specs.Out.{answer}
use Rattle.ns_calls.specs.Legal.{IsLegal, IsNumbered, IsOfShard, entry_for}
use Rattle.ns_kept.specs.Kept.{Remains, whole, reading, keep}

-- what is kept, and then these entries
abbrev pub followed_by : Remains → List Entry → Remains
followed_by k es = record k { entries = k.entries ++ es }

-- what is left of a history that was trimmed after its first entries
abbrev pub left_of : ℕ → List Entry → Remains
left_of mark h = followed_by (keep mark (whole (take mark h))) (drop mark h)

-- the history is legal from the roster on and numbered from 0, and k is what is left of it after the trim at k's mark
pub record Leaves (net : Network) (h : List Entry) (k : Remains) : Type 0 where
  pub legal : IsLegal net h
  pub numbered : IsNumbered h
  pub within : k.mark ≤ length h
  pub left : k ≡ left_of k.mark h

-- one more call, answered over what is kept
abbrev pub with_call : Network → ℕ → Remains → Call → Remains
with_call net made k call = followed_by k (entry_for net (reading k) made call ∷ [])

-- the first of the entries that are kept
abbrev pub first_entries : ℕ → Remains → Remains
first_entries n k = record k { entries = take n k.entries }

-- ---- calls and trims, one after the other

pub data Act : Type 0 where
  made : Call → Act
  trimmed : Act

-- the answers to the calls among them, over what is kept, where so many entries were made
abbrev pub answers_over : Network → ℕ → Remains → List Act → List Answer
answers_over net made_before k [] = []
answers_over net made_before k (made call ∷ acts) = answer net (reading k) call ∷ answers_over net (made_before + 1) (with_call net made_before k call) acts
answers_over net made_before k (trimmed ∷ acts) = answers_over net made_before (keep made_before k) acts

abbrev pub call_in : Act → Option Call
call_in (made call) = Some call
call_in trimmed = None

abbrev pub calls_in : List Act → List Call
calls_in acts = filter_map call_in acts

-- ---- of shards

-- each list is a history of the shard of its place, and leaves what stands there
abbrev pub AreLeft : Network → List (List Entry) → List Remains → Type 0
AreLeft net lists kept = (k : ℕ) (h : List Entry) → slice_get lists k ≡ Some h → IsOfShard k h × ((left : Remains) × (slice_get kept k ≡ Some left) × Leaves net h left)
