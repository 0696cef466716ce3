-- Laws of the grammar of uplinks.
use Rattle.std.specs.Prelude.{◌≡◌, ℕ, List, ◌⊎◌, ◌↔◌, ◌++◌, length, None}
use Rattle.ns_types.specs.Bytes.{AreBytes}
use Rattle.ns_views.specs.Grammar.{DataFields, JoinFields, IsDataFrame, IsDataUplink, IsJoinRequest, ported}
use Rattle.ns_views.specs.Parts.{header, with_payload}
use Rattle.ns_views.specs.Frame.{data_fields, join_fields, signed, view_fault, parts_fault}

-- no fields make these bytes an uplink
abbrev pub HasNoReading : List ℕ → Type 0
HasNoReading bytes = ((d : DataFields) → ¬ IsDataUplink bytes d) × ((j : JoinFields) → ¬ IsJoinRequest bytes j)

-- the parts that the view of a data uplink lends, one after the other, are the bytes, and `signed` is all but the MIC
pub record HasParts (bytes header options rest mic : List ℕ) : Type 0 where
  pub whole : bytes ≡ header ++ options ++ rest ++ mic
  pub before_mic : signed bytes ≡ header ++ options ++ rest

-- the parts of a data uplink: eight bytes up to the options, the options, the port and what is behind it, the MIC
abbrev pub PartsCover : List ℕ → Type 0
PartsCover bytes = let d = data_fields bytes in HasParts bytes (header bytes) d.fopts (ported d.port d.payload) d.mic

-- bytes have no fault exactly where they are a data uplink or a Join-Request
abbrev pub FaultsAreExact : Type 0
FaultsAreExact = (bytes : List ℕ) → AreBytes bytes → (view_fault bytes ≡ None) ↔ (IsDataUplink bytes (data_fields bytes) ⊎ IsJoinRequest bytes (join_fields bytes))

-- bytes have no fault for `parts_mut` exactly where they are a data uplink
abbrev pub PartsFaultsAreExact : Type 0
PartsFaultsAreExact = (bytes : List ℕ) → AreBytes bytes → (parts_fault bytes ≡ None) ↔ IsDataUplink bytes (data_fields bytes)

-- no bytes are a data frame and a Join-Request
abbrev pub KindsAreApart : Type 0
KindsAreApart = (bytes : List ℕ) (d : DataFields) (j : JoinFields) → IsDataFrame bytes d → ¬ IsJoinRequest bytes j

-- a Join-Request has 23 bytes and one reading
abbrev pub JoinsHaveOneReading : Type 0
JoinsHaveOneReading = (bytes : List ℕ) (j : JoinFields) → IsJoinRequest bytes j → (join_fields bytes ≡ j) × (length bytes ≡ 23)

-- a data uplink with other bytes in the place of its payload is the data uplink with that payload, and else the same fields
abbrev pub PayloadsAreReplaced : Type 0
PayloadsAreReplaced = (bytes written : List ℕ) → IsDataUplink bytes (data_fields bytes) → AreBytes written → length written ≡ length (data_fields bytes).payload → IsDataUplink (with_payload bytes written) (record (data_fields bytes) { payload = written })
