-- The receipt of a call on a shard, and what receipts tell of shards that began with entries.
use Rattle.std.specs.Prelude.{ℕ, ◌≡◌, List, ◌++◌}
use Rattle.ns_roster.specs.Network.{Network}
use Rattle.ns_calls.specs.declared.call.Call.{Call}
use Rattle.ns_calls.specs.declared.call.Entry.{Entry}
use Rattle.ns_calls.specs.Shards.{shard_of_call}
use Rattle.ns_calls.specs.Legal.{IsHistory}
use Rattle.ns_shard.specs.State.{State, Keeps, answer_in}
use Rattle.ns_outside.specs.declared.receipt.Receipt.{Receipt}
use Rattle.ns_outside.specs.Receipts.{receipt_of}
use Rattle.ns_outside.specs.Answered.{HasHistory}

-- the receipt of a call on a shard in this state: the entry that the call makes, and what goes out with it
abbrev pub receipt_for : State → Call → Receipt
receipt_for s call = receipt_of (shard_of_call call) s.made call (answer_in s call)

-- Each history of which the first state had what it keeps goes on to one after which the reply is the plain server's to the receipt's
-- call, and what goes out is what the receipt tells.
abbrev pub AnswersFrom : Network → State → ℕ → Receipt → Type 0
AnswersFrom net first shard r =
    (h : List Entry) → IsHistory first.roster first.index h → Keeps h first
    → (more : List Entry) × (has : HasHistory net shard r) × (has.before ≡ h ++ more)
