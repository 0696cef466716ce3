-- The fields of a frame, read off its bytes, and the first fault of bytes that are no uplink. `Grammar` says which bytes these are.
use Rattle.std.specs.Prelude.{ℕ, ◌+◌, ◌-◌, ◌/◌, ◌%◌, Bool, ◌||◌, ◌&&◌, not, ◌==◌, nat_lt, List, [], ◌∷◌, length, take, drop, slice_index, Option, None, Some}
use Rattle.std.specs.Int.{w16, w32, w64, from_le_bytes}
use Rattle.ns_types.specs.Cases.{when, first_of}
use Rattle.ns_views.specs.Grammar.{DataFields, JoinFields, join_request, unconfirmed_up, confirmed_up}
use Rattle.ns_views.specs.declared.ViewFault.{ViewFault}
use Rattle.ns_views.specs.declared.ViewFault.TheVariants.{TooShort, Major, FrameType, Options, JoinLength, TooLong}

-- the type in MHDR: bits 7 to 5
abbrev pub ftype_of : List ℕ → ℕ
ftype_of bytes = slice_index bytes 0 / 32

-- Major in MHDR: bits 1 and 0
abbrev pub major_of : List ℕ → ℕ
major_of bytes = slice_index bytes 0 % 4

-- how many bytes of options FCtrl names
abbrev pub fopts_len : List ℕ → ℕ
fopts_len bytes = slice_index bytes 5 % 16

-- all but the MIC
abbrev pub signed : List ℕ → List ℕ
signed bytes = take (length bytes - 4) bytes

-- what stands between the options and the MIC
abbrev pub port_and_payload : List ℕ → List ℕ
port_and_payload bytes = drop (8 + fopts_len bytes) (signed bytes)

abbrev pub first_byte : List ℕ → Option ℕ
first_byte [] = None
first_byte (b ∷ bytes) = Some b

-- the fields of a data frame
abbrev pub data_fields : List ℕ → DataFields
data_fields bytes = record {
  ftype = ftype_of bytes;
  addr = from_le_bytes w32 (take 4 (drop 1 bytes));
  fctrl = slice_index bytes 5;
  fcnt16 = from_le_bytes w16 (take 2 (drop 6 bytes));
  fopts = take (fopts_len bytes) (drop 8 bytes);
  port = first_byte (port_and_payload bytes);
  payload = drop 1 (port_and_payload bytes);
  mic = drop (length bytes - 4) bytes;
}

-- the fields of a Join-Request
abbrev pub join_fields : List ℕ → JoinFields
join_fields bytes = record {
  join_eui = from_le_bytes w64 (take 8 (drop 1 bytes));
  dev_eui = from_le_bytes w64 (take 8 (drop 9 bytes));
  nonce = from_le_bytes w16 (take 2 (drop 17 bytes));
  mic = drop 19 bytes;
}

-- whether it is a Confirmed Data Up
abbrev pub is_confirmed : List ℕ → Bool
is_confirmed bytes = ftype_of bytes == confirmed_up

-- whether the type is that of a data uplink
abbrev pub is_data_type : List ℕ → Bool
is_data_type bytes = (ftype_of bytes == unconfirmed_up) || (ftype_of bytes == confirmed_up)

-- whether the type is that of a Join-Request
abbrev pub is_join_type : List ℕ → Bool
is_join_type bytes = ftype_of bytes == join_request

-- the first fault of bytes that are no uplink, and nothing of an uplink
abbrev pub view_fault : List ℕ → Option ViewFault
view_fault bytes = first_of (
    -- V1
    when (length bytes == 0) TooShort
    -- V2
    ∷ when (not (major_of bytes == 0)) Major
    -- V3
    ∷ when (not (is_join_type bytes || is_data_type bytes)) FrameType
    -- V5
    ∷ when (is_join_type bytes && not (length bytes == 23)) JoinLength
    -- V1
    ∷ when (is_data_type bytes && nat_lt (length bytes) 12) TooShort
    -- V6
    ∷ when (is_data_type bytes && nat_lt 255 (length bytes)) TooLong
    -- V4
    ∷ when (is_data_type bytes && nat_lt (length bytes) (12 + fopts_len bytes)) Options
    ∷ [])

-- the first fault of bytes that are no data uplink: where they are a Join-Request it is V3
abbrev pub parts_fault : List ℕ → Option ViewFault
parts_fault bytes = first_of (view_fault bytes ∷ when (is_join_type bytes) FrameType ∷ [])
