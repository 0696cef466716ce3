-- Merges of the shards' histories.
use Rattle.std.specs.Prelude.{ℕ, ◌≡◌, ◌<◌, List, length, take, Some, slice_get, Option}
use Rattle.std.specs.List.{AllByRecursion}
use Rattle.ns_roster.specs.Network.{Network}
use Rattle.ns_calls.specs.declared.call.Entry.{Entry}
use Rattle.ns_calls.specs.Shards.{shard_of_call, of_shard, IsMerge}
use Rattle.ns_calls.specs.Out.{uplink_out, downlink_out}
use Rattle.ns_calls.specs.Legal.{IsLegal, IsHistory}
use Rattle.ns_calls.specs.declared.answer.Uplink.{Uplink}
use Rattle.ns_calls.specs.declared.answer.Downlink.{Downlink}

-- each list is a history of the shard of its place
abbrev pub AreHistories : Network → List (List Entry) → Type 0
AreHistories net lists = (k : ℕ) (h : List Entry) → slice_get lists k ≡ Some h → IsHistory net k h

-- what goes out at an entry
pub record Sent : Type 0 where
  pub uplink : Option Uplink
  pub downlink : Option Downlink

abbrev pub out : Network → List Entry → Entry → Sent
out net h e = record { uplink = uplink_out h e.call e.reply; downlink = downlink_out net h e.call e.reply }

-- what goes out at an entry of the merged list is what goes out at it in its own shard
abbrev pub SendsAlike : Network → List (List Entry) → List Entry → Type 0
SendsAlike net lists merged =
    (n : ℕ) (e : Entry) → slice_get merged n ≡ Some e
    → (h : List Entry) × (slice_get lists (shard_of_call e.call) ≡ Some h) × (slice_get h e.number ≡ Some e) × (out net (take n merged) e ≡ out net (take e.number h) e)

-- of each shard the list has exactly the shard's part, in its order, and it has nothing of a shard without a part
pub record IsMadeOf (parts : List (List Entry)) (whole : List Entry) : Type 0 where
  pub each : (k : ℕ) (part : List Entry) → slice_get parts k ≡ Some part → of_shard k whole ≡ part
  pub all : AllByRecursion (λ e. shard_of_call e.call < length parts) whole

-- every merge of these histories is a legal history of the one plain server, and what goes out is the same at each entry
abbrev pub MergesAreLegal : Network → List (List Entry) → Type 0
MergesAreLegal net lists = (merged : List Entry) → IsMerge lists merged → IsLegal net merged × SendsAlike net lists merged
