-- What receipts tell, and how a call changes the counts of a pass.
use Rattle.std.specs.Prelude.{ℕ, ◌≡◌, ◌+◌, ◌==◌, if◌then◌else◌, List, length, slice_index}
use Rattle.ns_roster.specs.Network.{Network}
use Rattle.ns_calls.specs.declared.call.Entry.{Entry}
use Rattle.ns_calls.specs.Reply.{reply_to}
use Rattle.ns_calls.specs.Merges.{out}
use Rattle.ns_calls.specs.Legal.{IsHistory}
use Rattle.ns_outside.specs.declared.receipt.Receipt.{Receipt}

-- the receipt tells what goes out at its entry, after these entries
pub record Sends (net : Network) (h : List Entry) (r : Receipt) : Type 0 where
  pub uplink : (out net h r.entry).uplink ≡ r.uplink
  pub downlink : (out net h r.entry).downlink ≡ r.downlink

-- There is a history of the shard, as long as the receipt's number, after which the reply is the plain server's to the receipt's call,
-- and what goes out is what the receipt tells.
pub record HasHistory (net : Network) (shard : ℕ) (r : Receipt) : Type 0 where
  pub before : List Entry
  pub is_history : IsHistory net shard before
  pub number : length before ≡ r.entry.number
  pub reply : r.entry.reply ≡ reply_to net before r.entry.call
  pub sent : Sends net before r

-- the count of this shard has risen by one, and the others have stayed
pub record RisesAt (shard : ℕ) (old new : List ℕ) : Type 0 where
  pub rise : (k : ℕ) → slice_index new k ≡ slice_index old k + (if k == shard then 1 else 0)
