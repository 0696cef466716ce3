-- Ages of the devices from a place on.
use Rattle.std.proofs.Common.{◌≡◌, ◌+◌, ◌-◌, ◌^◌, ℕ, min, List, drop, Option, Some, ap, ◌∙◌}
use Rattle.std.specs.List.{slice_get}
use Rattle.std.proofs.lemmas.List.{at_drop_more}
use Rattle.std.proofs.lemmas.Option.{slice_get_within, get_or_from_slice_get}
use Rattle.ns_types.specs.declared.identity.DevEui.{DevEui}
use Rattle.ns_status.specs.declared.devices.Device.{Device}
use Rattle.ns_status.specs.Devices.{age_of, ages_with}

-- the device at a place, and those after it
pub ages_more : (now sum : ℕ) (rows : List (DevEui × Option Device)) (i : ℕ) (row : DevEui × Option Device) → slice_get rows i ≡ Some row
    → ages_with now sum (drop i rows) ≡ ages_with now (min (sum + age_of now row.1) (2 ^ 64 - 1)) (drop (i + 1) rows)
ages_more now sum rows i row at =
    at_drop_more (ages_with now sum) rows i row (slice_get_within rows i row at)
    ∙ ap (λ (r : DevEui × Option Device). ages_with now (min (sum + age_of now r.1) (2 ^ 64 - 1)) (drop (i + 1) rows)) (get_or_from_slice_get rows i row row at)
