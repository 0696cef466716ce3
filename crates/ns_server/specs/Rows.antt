-- The shards one after the other.
use Rattle.std.specs.Prelude.{ℕ, zero, suc, ◌≡◌, List, [], ◌∷◌, ◌++◌}
use Rattle.ns_roster.specs.Network.{Network}
use Rattle.ns_shard.specs.State.{State, no_entries}

-- of the shards from this one on each has this, by its number
abbrev pub AreRow : (ℕ → State → Type 0) → ℕ → List State → Type 0
AreRow P k [] = Unit {0}
AreRow P k (s ∷ ss) = P k s × AreRow P (suc k) ss

-- the shards below this number
abbrev pub states_below : (ℕ → State) → ℕ → List State
states_below state zero = []
states_below state (suc k) = states_below state k ++ state k ∷ []

-- the same, with no entries
abbrev pub new_states : Network → ℕ → List State
new_states net = states_below (no_entries net)

-- each of all shards has this roster, and its number
abbrev pub IsPlaced : Network → (ℕ → State) → Type 0
IsPlaced net state = (k : ℕ) → ((state k).roster ≡ net) × ((state k).index ≡ k)

-- these are the first of the shards with which a server begins, so many of them
pub record AreFirst (net : Network) (begun : ℕ → State) (count : ℕ) (states : List State) : Type 0 where
  pub below : states ≡ states_below begun count
  pub placed : IsPlaced net begun
