-- The parts of a data uplink that `parts_mut` lends, and the frame with another payload.
use Rattle.std.specs.Prelude.{◌-◌, List, ℕ, ◌++◌, length, take}
use Rattle.ns_views.specs.Frame.{data_fields}

-- the eight bytes up to the options: MHDR, address, FCtrl and the low half of the counter
abbrev pub header : List ℕ → List ℕ
header bytes = take 8 bytes

-- all that stands before the payload
abbrev pub before_payload : List ℕ → List ℕ
before_payload bytes = take (length bytes - 4 - length (data_fields bytes).payload) bytes

-- the frame with these bytes in the place of its payload
abbrev pub with_payload : List ℕ → List ℕ → List ℕ
with_payload bytes written = before_payload bytes ++ written ++ (data_fields bytes).mic
