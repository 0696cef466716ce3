-- Bytes that pass the tests of a view are a frame of the grammar, with the fields that are read off them.
use Rattle.std.proofs.Common.{◌≡◌, ℕ, ◌+◌, ◌-◌, ◌/◌, ◌%◌, ◌^◌, ◌<◌, ◌≤◌, ◌⊎◌, List, [], ◌∷◌, ◌++◌, length, get_or, take, drop, IfSome, IfNone, refl, sym, ap, ◌∙◌, inl, inr, arith}
use Rattle.std.proofs.Math.Seq.{take-add}
use Rattle.std.proofs.lemmas.List.{append_assoc, take-append-drop, take-take, length-drop}
use Rattle.std.proofs.lemmas.List.Elements.{All-get_or}
use Rattle.std.proofs.lemmas.Nat.{le_bytes_2, le_bytes_4, le_bytes_8}
use Rattle.std.specs.Int.{w16, w32, w64, to_le_bytes, from_le_bytes}
use Rattle.ns_types.specs.Bytes.{AreBytes}
use Rattle.ns_types.proofs.ByteLemmas.{each_byte, part_byte, AreBytes-take, AreBytes-drop, AreBytes-part, length-part}
use Rattle.ns_views.specs.Grammar.{IsDataFrame, IsDataUplink, IsJoinRequest, mhdr, ported, frame_before_mic, join_request}
use Rattle.ns_views.specs.Frame.{ftype_of, major_of, fopts_len, signed, port_and_payload, first_byte, data_fields, join_fields}

-- what the tests of a data frame say
pub record IsDataSized (bytes : List ℕ) : Type 0 where
  pub major : major_of bytes ≡ 0
  pub ftype : (ftype_of bytes ≡ 2) ⊎ (ftype_of bytes ≡ 4)
  pub least : 12 ≤ length bytes
  pub options : 12 + fopts_len bytes ≤ length bytes
  pub most : length bytes ≤ 255

-- what the tests of a Join-Request say
pub record IsJoinSized (bytes : List ℕ) : Type 0 where
  pub major : major_of bytes ≡ 0
  pub ftype : ftype_of bytes ≡ join_request
  pub size : length bytes ≡ 23

-- the bytes up to the options are these parts
pub header-is : (bytes : List ℕ) → 8 ≤ length bytes → take 8 bytes ≡ get_or bytes 0 0 ∷ take 4 (drop 1 bytes) ++ (get_or bytes 5 0 ∷ take 2 (drop 6 bytes))
header-is (a ∷ b ∷ c ∷ d ∷ e ∷ f ∷ g ∷ h ∷ bytes) p = refl
header-is bytes p = absurd (omega arith)

-- a port and what is behind it, or nothing
pub ported-first_byte : (bytes : List ℕ) → ported (first_byte bytes) (drop 1 bytes) ≡ bytes
ported-first_byte [] = refl
ported-first_byte (b ∷ bytes) = refl

-- all but the MIC, in its parts
pub signed-parts : (bytes : List ℕ) → IsDataSized bytes → signed bytes ≡ (take 8 bytes ++ take (fopts_len bytes) (drop 8 bytes)) ++ port_and_payload bytes
signed-parts bytes h =
    let k = fopts_len bytes in
    sym (take-append-drop (8 + k) (signed bytes))
    ∙ ap (λ front. front ++ port_and_payload bytes) (take-take (8 + k) (length bytes - 4) bytes (omega (arith, h.options)) ∙ take-add 8 k bytes)

-- numbers of 4, 2 and 8 bytes are below that power
below_4 : (bytes : List ℕ) → ((i : ℕ) → get_or bytes i 0 < 256) → from_le_bytes w32 bytes < 2 ^ 32
below_4 bytes h = omega (arith, h 0, h 1, h 2, h 3)

below_2 : (bytes : List ℕ) → ((i : ℕ) → get_or bytes i 0 < 256) → from_le_bytes w16 bytes < 2 ^ 16
below_2 bytes h = omega (arith, h 0, h 1)

below_8 : (bytes : List ℕ) → ((i : ℕ) → get_or bytes i 0 < 256) → from_le_bytes w64 bytes < 2 ^ 64
below_8 bytes h = omega (arith, h 0, h 1, h 2, h 3, h 4, h 5, h 6, h 7)

-- the numbers that were read, written again
addr-is : (bytes : List ℕ) → AreBytes bytes → 5 ≤ length bytes → to_le_bytes w32 (from_le_bytes w32 (take 4 (drop 1 bytes))) ≡ take 4 (drop 1 bytes)
addr-is bytes h n = le_bytes_4 (take 4 (drop 1 bytes)) _ (length-part bytes 1 4 n) (part_byte bytes 1 4 h) refl

number_of_2 : (bytes : List ℕ) (from : ℕ) → AreBytes bytes → from + 2 ≤ length bytes → to_le_bytes w16 (from_le_bytes w16 (take 2 (drop from bytes))) ≡ take 2 (drop from bytes)
number_of_2 bytes from h n = le_bytes_2 (take 2 (drop from bytes)) _ (length-part bytes from 2 n) (part_byte bytes from 2 h) refl

number_of_8 : (bytes : List ℕ) (from : ℕ) → AreBytes bytes → from + 8 ≤ length bytes → to_le_bytes w64 (from_le_bytes w64 (take 8 (drop from bytes))) ≡ take 8 (drop from bytes)
number_of_8 bytes from h n = le_bytes_8 (take 8 (drop from bytes)) _ (length-part bytes from 8 n) (part_byte bytes from 8 h) refl

-- the parts, joined in the grammar's way
joined : (a c : ℕ) (address counter options rest : List ℕ) → ((a ∷ address ++ (c ∷ counter)) ++ options) ++ rest ≡ a ∷ address ++ (c ∷ counter ++ options ++ rest)
joined a c address counter options rest = simp append_assoc

same_parts : (c : ℕ) (options : List ℕ) {a a' : ℕ} {address address' counter counter' rest rest' : List ℕ} → a ≡ a' → address ≡ address' → counter ≡ counter' → rest ≡ rest' →
    a ∷ address ++ (c ∷ counter ++ options ++ rest) ≡ a' ∷ address' ++ (c ∷ counter' ++ options ++ rest')
same_parts c options e f g i = cc

frame-is : (bytes : List ℕ) → AreBytes bytes → IsDataSized bytes → bytes ≡ frame_before_mic (get_or bytes 0 0 % 32 / 4) (data_fields bytes) ++ drop (length bytes - 4) bytes
frame-is bytes b h =
    let options = take (fopts_len bytes) (drop 8 bytes) in
    let rest = port_and_payload bytes in
    let sized = h.least in
    let first : get_or bytes 0 0 ≡ mhdr (ftype_of bytes) (get_or bytes 0 0 % 32 / 4) = omega (arith, h.major) in
    sym (take-append-drop (length bytes - 4) bytes)
    ∙ ap (λ front. front ++ drop (length bytes - 4) bytes)
    (signed-parts bytes h
    ∙ ap (λ header. (header ++ options) ++ rest) (header-is bytes (omega arith))
    ∙ joined (get_or bytes 0 0) (get_or bytes 5 0) (take 4 (drop 1 bytes)) (take 2 (drop 6 bytes)) options rest
    ∙ same_parts (get_or bytes 5 0) options first (sym (addr-is bytes b (omega arith))) (sym (number_of_2 bytes 6 b (omega arith))) (sym (ported-first_byte rest)))

port-byte : (bytes : List ℕ) → AreBytes bytes → IfSome (first_byte bytes) (λ port. port < 256)
port-byte [] h = tt
port-byte (b ∷ bytes) h = All-get_or (λ b. b < 256) (b ∷ bytes) 0 0 (omega arith) h

no_port-no_payload : (bytes : List ℕ) → IfNone (first_byte bytes) (drop 1 bytes ≡ [])
no_port-no_payload [] = refl
no_port-no_payload (b ∷ bytes) = tt

AreBytes-signed : (bytes : List ℕ) → AreBytes bytes → AreBytes (port_and_payload bytes)
AreBytes-signed bytes b = AreBytes-drop (signed bytes) (8 + fopts_len bytes) (AreBytes-take bytes (length bytes - 4) b)

-- bytes that pass the tests of a data uplink are one
pub IsDataUplink-sized : (bytes : List ℕ) → AreBytes bytes → IsDataSized bytes → IsDataUplink bytes (data_fields bytes)
IsDataUplink-sized bytes b h =
    let first : get_or bytes 0 0 < 256 = each_byte bytes b 0 in
    let fifth : get_or bytes 5 0 < 256 = each_byte bytes b 5 in
    let sized = h.least in
    let fits : IsDataFrame bytes (data_fields bytes) = record {
      parts = (get_or bytes 0 0 % 32 / 4, omega arith, frame-is bytes b h);
      ftype = elim (h.ftype) [ inl e ↦ (omega arith, omega arith) | inr e ↦ (omega arith, omega arith) ];
      addr = below_4 (take 4 (drop 1 bytes)) (part_byte bytes 1 4 b);
      fctrl = fifth;
      fcnt16 = below_2 (take 2 (drop 6 bytes)) (part_byte bytes 6 2 b);
      fopts = length-part bytes 8 (fopts_len bytes) (omega (arith, h.options));
      fopts_bytes = AreBytes-part bytes 8 (fopts_len bytes) b;
      port = port-byte (port_and_payload bytes) (AreBytes-signed bytes b);
      no_port = no_port-no_payload (port_and_payload bytes);
      payload_bytes = AreBytes-drop (port_and_payload bytes) 1 (AreBytes-signed bytes b);
      mic = omega (arith, length-drop (length bytes - 4) bytes);
      mic_bytes = AreBytes-drop bytes (length bytes - 4) b;
      size = h.most;
    } in
    (fits, h.ftype)

-- the bytes before the MIC of a Join-Request are these parts
join_header-is : (bytes : List ℕ) → length bytes ≡ 23 → take 19 bytes ≡ get_or bytes 0 0 ∷ take 8 (drop 1 bytes) ++ take 8 (drop 9 bytes) ++ take 2 (drop 17 bytes)
join_header-is [] h = absurd (omega arith)
join_header-is (b ∷ bytes) h =
    take-add 17 2 (b ∷ bytes) ∙ ap (λ front. front ++ take 2 (drop 17 (b ∷ bytes))) (take-add 9 8 (b ∷ bytes))

same_join_parts : {a a' : ℕ} {x x' y y' z z' : List ℕ} → a ≡ a' → x ≡ x' → y ≡ y' → z ≡ z' → a ∷ x ++ y ++ z ≡ a' ∷ x' ++ y' ++ z'
same_join_parts e f g h = cc

join-is : (bytes : List ℕ) → AreBytes bytes → IsJoinSized bytes →
    bytes ≡ mhdr join_request (get_or bytes 0 0 % 32 / 4) ∷ to_le_bytes w64 (join_fields bytes).join_eui ++ to_le_bytes w64 (join_fields bytes).dev_eui ++ to_le_bytes w16 (join_fields bytes).nonce ++ drop 19 bytes
join-is bytes b h =
    let size = h.size in
    let byte : get_or bytes 0 0 < 256 = each_byte bytes b 0 in
    let first : get_or bytes 0 0 ≡ mhdr join_request (get_or bytes 0 0 % 32 / 4) = omega (arith, h.major, h.ftype) in
    sym (take-append-drop 19 bytes)
    ∙ ap (λ front. front ++ drop 19 bytes)
    (join_header-is bytes size
    ∙ same_join_parts first (sym (number_of_8 bytes 1 b (omega arith))) (sym (number_of_8 bytes 9 b (omega arith))) (sym (number_of_2 bytes 17 b (omega arith))))

-- bytes that pass the tests of a Join-Request are one
pub IsJoinRequest-sized : (bytes : List ℕ) → AreBytes bytes → IsJoinSized bytes → IsJoinRequest bytes (join_fields bytes)
IsJoinRequest-sized bytes b h =
    let byte : get_or bytes 0 0 < 256 = each_byte bytes b 0 in
    let size = h.size in
    record {
      parts = (get_or bytes 0 0 % 32 / 4, omega arith, join-is bytes b h);
      join_eui = below_8 (take 8 (drop 1 bytes)) (part_byte bytes 1 8 b);
      dev_eui = below_8 (take 8 (drop 9 bytes)) (part_byte bytes 9 8 b);
      nonce = below_2 (take 2 (drop 17 bytes)) (part_byte bytes 17 2 b);
      mic = omega (arith, length-drop 19 bytes);
      mic_bytes = AreBytes-drop bytes 19 b;
    }
