-- A data frame has one reading: `data_fields` gives back what it was made of.
use Rattle.std.proofs.Common.{◌≡◌, ℕ, ◌+◌, ◌-◌, ◌%◌, ◌<◌, List, [], ◌∷◌, ◌++◌, length, take, drop, Option, None, Some, IfNone, refl, sym, ap, ◌∙◌, arith, length-append}
use Rattle.std.proofs.Math.Seq.{drop-append-add}
use Rattle.std.proofs.lemmas.List.{append_assoc, take_at, drop_at}
use Rattle.std.specs.Int.{w16, w32, w64, to_le_bytes}
use Rattle.std.proofs.lemmas.Nat.{from_le_bytes-to_le_bytes_2, from_le_bytes-to_le_bytes_4, from_le_bytes-to_le_bytes_8}
use Rattle.ns_views.specs.Grammar.{DataFields, JoinFields, IsDataFrame, IsJoinRequest, join_request, mhdr, ported, frame_before_mic}
use Rattle.ns_views.specs.Frame.{ftype_of, port_and_payload, first_byte, data_fields, join_fields}

-- all but the last four bytes
before_four : (s m : List ℕ) → length m ≡ 4 → length s ≡ length (s ++ m) - 4
before_four s m h = omega (arith, length-append s m)

-- the frame with these parts
abbrev pub frame : ℕ → DataFields → List ℕ
frame reserved d = frame_before_mic reserved d ++ d.mic

-- the eight bytes up to the options
abbrev head : ℕ → DataFields → List ℕ
head reserved d = mhdr d.ftype reserved ∷ to_le_bytes w32 d.addr ++ (d.fctrl ∷ to_le_bytes w16 d.fcnt16)

pub ftype-is : (reserved : ℕ) (d : DataFields) → reserved < 8 → ftype_of (frame reserved d) ≡ d.ftype
ftype-is reserved d h = omega arith

ported-is : (reserved : ℕ) (d : DataFields) → length d.mic ≡ 4 → length d.fopts ≡ d.fctrl % 16 → port_and_payload (frame reserved d) ≡ ported d.port d.payload
ported-is reserved d m h =
    ap (drop (8 + d.fctrl % 16)) (take_at (frame_before_mic reserved d) d.mic _ (before_four (frame_before_mic reserved d) d.mic m))
    ∙ (drop-append-add (head reserved d) (d.fopts ++ ported d.port d.payload) (d.fctrl % 16)
    ∙ drop_at d.fopts (ported d.port d.payload) (d.fctrl % 16) h)

port_and_payload-are : (port : Option ℕ) (payload : List ℕ) → IfNone port (payload ≡ []) → (first_byte (ported port payload) ≡ port) × (drop 1 (ported port payload) ≡ payload)
port_and_payload-are None payload h = (refl, sym h)
port_and_payload-are (Some port) payload h = (refl, refl)

same_fields : (c d : DataFields) → c.ftype ≡ d.ftype → c.addr ≡ d.addr → c.fctrl ≡ d.fctrl → c.fcnt16 ≡ d.fcnt16 → c.fopts ≡ d.fopts → c.port ≡ d.port → c.payload ≡ d.payload → c.mic ≡ d.mic → c ≡ d
same_fields c d e f g h i j k l = λ t. record { ftype = e t; addr = f t; fctrl = g t; fcnt16 = h t; fopts = i t; port = j t; payload = k t; mic = l t }

-- the fields of a frame that is made of these fields
pub data_fields-frame : (bytes : List ℕ) (d : DataFields) → IsDataFrame bytes d → data_fields bytes ≡ d
data_fields-frame bytes d h =
    let reserved = h.parts.0 in
    let e_ftype = ftype-is reserved d h.parts.1 in
    let e_addr = from_le_bytes-to_le_bytes_4 d.addr h.addr in
    let e_fcnt = from_le_bytes-to_le_bytes_2 d.fcnt16 h.fcnt16 in
    let e_fopts = ap (take (d.fctrl % 16)) (append_assoc d.fopts (ported d.port d.payload) d.mic) ∙ take_at d.fopts (ported d.port d.payload ++ d.mic) (d.fctrl % 16) h.fopts in
    let e_ported = ported-is reserved d h.mic h.fopts in
    let are = port_and_payload-are d.port d.payload h.no_port in
    let e_port = ap first_byte e_ported ∙ are.0 in
    let e_payload = ap (drop 1) e_ported ∙ are.1 in
    let e_mic = drop_at (frame_before_mic reserved d) d.mic _ (before_four (frame_before_mic reserved d) d.mic h.mic) in
    ap data_fields h.parts.2 ∙ same_fields (data_fields (frame reserved d)) d e_ftype e_addr refl e_fcnt e_fopts e_port e_payload e_mic

same_request : (c d : JoinFields) → c.join_eui ≡ d.join_eui → c.dev_eui ≡ d.dev_eui → c.nonce ≡ d.nonce → c.mic ≡ d.mic → c ≡ d
same_request c d e f g h = λ t. record { join_eui = e t; dev_eui = f t; nonce = g t; mic = h t }

-- the fields of a Join-Request that is made of these fields
pub join_fields-request : (bytes : List ℕ) (j : JoinFields) → IsJoinRequest bytes j → join_fields bytes ≡ j
join_fields-request bytes j h =
    let r = h.parts.0 in
    let e_join = from_le_bytes-to_le_bytes_8 j.join_eui h.join_eui in
    let e_dev = from_le_bytes-to_le_bytes_8 j.dev_eui h.dev_eui in
    let e_nonce = from_le_bytes-to_le_bytes_2 j.nonce h.nonce in
    ap join_fields h.parts.2 ∙ same_request (join_fields (mhdr join_request r ∷ to_le_bytes w64 j.join_eui ++ to_le_bytes w64 j.dev_eui ++ to_le_bytes w16 j.nonce ++ j.mic)) j e_join e_dev e_nonce refl
