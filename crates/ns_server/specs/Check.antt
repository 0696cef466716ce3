-- Receipts against the histories.
use Rattle.std.specs.Prelude.{ℕ, nat_le, ◌≡◌, ◌<◌, ◌⊎◌, ◌&&◌, List, length, take, Some, slice_get, count_by, ◌==◌}
use Rattle.ns_roster.specs.Network.{Network}
use Rattle.ns_calls.specs.declared.call.Entry.{Entry}
use Rattle.ns_shard.specs.State.{State, Keeps}
use Rattle.ns_outside.specs.declared.receipt.Receipt.{Receipt}
use Rattle.ns_outside.specs.Answered.{Sends}

-- the receipt's entry stands in this history at its number, and the receipt tells what goes out there
pub record StandsAt (net : Network) (h : List Entry) (r : Receipt) : Type 0 where
  pub entry : slice_get h r.entry.number ≡ Some r.entry
  pub sent : Sends net (take r.entry.number h) r

-- the same in each history of which the shard has what it keeps
abbrev pub StandsIn : State → Receipt → Type 0
StandsIn s r = (h : List Entry) → Keeps h s → StandsAt s.roster h r

-- the same in the shard that the receipt names
abbrev pub Stands : List State → Receipt → Type 0
Stands states r = (s : State) × (slice_get states r.shard ≡ Some s) × StandsIn s r

-- an earlier receipt has the shard and the number of this one
abbrev pub IsRepeated : List Receipt → ℕ → Type 0
IsRepeated receipts i =
    (r : Receipt) × (j : ℕ) × (q : Receipt) × (slice_get receipts i ≡ Some r) × (j < i) × (slice_get receipts j ≡ Some q)
    × (q.shard ≡ r.shard) × (q.entry.number ≡ r.entry.number)

-- the receipt is of an entry that was made before the last trim of its shard: such receipts are passed over
abbrev pub IsPassed : List State → Receipt → Type 0
IsPassed states r = (s : State) × (slice_get states r.shard ≡ Some s) × (r.entry.number < s.mark)

-- the receipt at this place is right
abbrev pub IsRight : List State → List Receipt → ℕ → Type 0
IsRight states receipts i = (r : Receipt) → slice_get receipts i ≡ Some r → IsPassed states r ⊎ (Stands states r × (IsRepeated receipts i → ⊥))

-- all receipts are right
abbrev pub AreRight : List State → List Receipt → Type 0
AreRight states receipts = (i : ℕ) → i < length receipts → IsRight states receipts i

-- the receipt at this place is wrong, and each one before it is right
abbrev pub IsFirstWrong : List State → List Receipt → ℕ → Type 0
IsFirstWrong states receipts i =
    (i < length receipts) × (IsRight states receipts i → ⊥) × ((j : ℕ) → j < i → IsRight states receipts j)

-- how many receipts are of this shard
abbrev pub receipts_of : ℕ → List Receipt → ℕ
receipts_of shard receipts = count_by (λ r. r.shard == shard) receipts

-- how many of them are numbered from this mark on
abbrev pub receipts_since : ℕ → ℕ → List Receipt → ℕ
receipts_since shard mark receipts = count_by (λ r. r.shard == shard && nat_le mark r.entry.number) receipts

-- how many entries are numbered from this mark on
abbrev pub entries_since : ℕ → List Entry → ℕ
entries_since mark entries = count_by (λ (e : Entry). nat_le mark e.number) entries

-- one of the receipts tells this entry of the shard
abbrev pub HasReceipt : ℕ → Entry → List Receipt → Type 0
HasReceipt shard e receipts = (i : ℕ) × (r : Receipt) × (slice_get receipts i ≡ Some r) × (r.shard ≡ shard) × (r.entry ≡ e)
