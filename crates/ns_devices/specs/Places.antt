-- Where the devices of a shard stand; for private clauses.
use Rattle.std.specs.Prelude.{◌≡◌, ℕ, suc, ◌<◌, Bool, ◌==◌, List, [], ◌∷◌, length, map, filter_map, slice_get, Option, if◌then◌else◌}
use Rattle.std.specs.List.{AllByRecursion, IsDistinct}
use Rattle.std.specs.Map.{keys_of, values_of}
use Rattle.smallvec.specs.SmallVec.{SmallVec}
use Rattle.ns_rows.specs.Rows.{row_in}
use Rattle.ns_types.specs.declared.identity.DevEui.{DevEui}
use Rattle.ns_calls.specs.Queries.{first}
use Rattle.ns_calls.specs.Entries.{same_device}
use Rattle.ns_calls.specs.Reply.{Fit}
use Rattle.ns_devices.specs.declared.own.Own.{Own}
use Rattle.ns_devices.specs.Devices.{own_fit}

-- the places of the elements that pass, where the first element has this place
abbrev pub places_from : {X : Type 0} → (X → Bool) → ℕ → List X → List ℕ
places_from test place [] = []
places_from test place (x ∷ xs) = if test x then place ∷ places_from test (suc place) xs else places_from test (suc place) xs

-- The devices by EUI and the places by address say the same: each device stands at its own EUI, no two have one EUI, and at each address
-- stand the places of the devices with it, in their order.
pub record Agree (list : List (DevEui × Own)) (table : List (ℕ × SmallVec ℕ)) : Type 0 where
  pub euis : keys_of list ≡ map (λ o. o.device.eui) (values_of list)
  pub apart : IsDistinct same_device (keys_of list)
  pub places : (addr : ℕ) → row_in table addr ≡ places_from (λ o. o.addr.0 == addr) 0 (values_of list)

-- each of the places has a device
abbrev pub AreWithin : List ℕ → List Own → Type 0
AreWithin places devices = AllByRecursion (λ i. i < length devices) places

-- where a frame fits first among the devices at these places
abbrev pub first_fit_at : (Option ℕ → ℕ → Option ℕ) → List ℕ → List ℕ → List Own → Option Fit
first_fit_at recover frame places devices = first (filter_map (own_fit recover frame) (filter_map (slice_get devices) places))
