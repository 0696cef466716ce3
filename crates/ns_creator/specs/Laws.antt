-- Laws of written frames, which contracts of functions that do nothing name.
use Rattle.std.specs.Prelude.{◌≡◌, ℕ, ◌%◌, List, ◌∷◌, ◌++◌, None}
use Rattle.std.specs.Int.{w16, w32, to_le_bytes}
use Rattle.ns_views.specs.Grammar.{DataFields, JoinFields, IsDataUplink, IsJoinRequest}
use Rattle.ns_views.specs.Frame.{data_fields, join_fields, view_fault}
use Rattle.ns_secure.specs.declared.Dir.TheVariants.{Down}
use Rattle.ns_secure.specs.Integrity.{mic}
use Rattle.ns_creator.specs.declared.keys.Keys.{Keys}
use Rattle.ns_creator.specs.DataFrame.{data_frame, ack}

-- the bytes of an uplink have no fault, and what is read off them are the fields that they were made of
abbrev pub UplinksReadBack : Type 0
UplinksReadBack = (bytes : List ℕ) (d : DataFields) → IsDataUplink bytes d → (view_fault bytes ≡ None) × (data_fields bytes ≡ d)

abbrev pub JoinRequestsReadBack : Type 0
JoinRequestsReadBack = (bytes : List ℕ) (j : JoinFields) → IsJoinRequest bytes j → (view_fault bytes ≡ None) × (join_fields bytes ≡ j)

-- all of an acknowledgement before its MIC: MHDR, the address, FCtrl with ACK, and the low half of its number
abbrev pub ack_before_mic : ℕ → ℕ → List ℕ
ack_before_mic addr counter = 0x60 ∷ to_le_bytes w32 addr ++ 0x20 ∷ to_le_bytes w16 (counter % 65536)

-- the bytes of an acknowledgement
abbrev pub AckIsItsBytes : Type 0
AckIsItsBytes = (keys : Keys) (addr counter : ℕ) → data_frame keys (ack addr counter) ≡ ack_before_mic addr counter ++ mic keys.nwk.0 Down addr counter (ack_before_mic addr counter)
