-- The shards of a server that has ended, as the list of their states.
use Rattle.std.specs.Prelude.{ℕ, ◌≡◌, ◌+◌, List, map, Some, Option, option_and_then, slice_get, slice_index, sum_by}
use Rattle.ns_types.specs.Identity.{shard_of}
use Rattle.ns_types.specs.declared.identity.DevEui.{DevEui}
use Rattle.ns_roster.specs.Network.{Network}
use Rattle.ns_calls.specs.declared.call.Entry.{Entry}
use Rattle.ns_calls.specs.Merges.{MergesAreLegal}
use Rattle.ns_shard.specs.State.{State, remains, seen, known_greatest}
use Rattle.ns_kept.specs.Kept.{Remains}
use Rattle.ns_kept.specs.Left.{AreLeft}
use Rattle.ns_server.specs.Kept.{IsStateOf}

-- what is left of the histories of the shards: what their last trims kept, and the entries made since
abbrev pub histories : List State → List (List Entry)
histories states = map (λ s. s.entries) states

-- the same, with the marks, and with the names of the windows that were open at the trims
abbrev pub remains_of : List State → List Remains
remains_of states = map remains states

-- the greatest DevNonce of a device that the roster has, over what is left of the history of its shard
abbrev pub greatest_of : Network → List State → DevEui → Option ℕ
greatest_of net states eui = option_and_then (λ s. known_greatest net (seen s) eui) (slice_get states (shard_of eui))

-- each is a state of the shard of its place
abbrev pub AreStates : Network → List State → Type 0
AreStates net states = (k : ℕ) (s : State) → slice_get states k ≡ Some s → IsStateOf net k s

-- each shard has made as many entries as it began with, and all passes together, whose counts these are
abbrev pub AreMadeBy : (ℕ → State) → List (List ℕ) → List State → Type 0
AreMadeBy begun passes states =
    (k : ℕ) (s : State) → slice_get states k ≡ Some s → s.made ≡ (begun k).made + sum_by (λ p. slice_index p k) passes

-- every merge of sixteen histories that leave what is left of the shards is a legal history of the one plain server, and what goes out is
-- the same at each entry
abbrev pub MergesToLegal : Network → List State → Type 0
MergesToLegal net states = (lists : List (List Entry)) → AreLeft net lists (remains_of states) → MergesAreLegal net lists
