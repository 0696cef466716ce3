-- A data uplink with another payload of the same length.
use Rattle.std.proofs.Common.{◌≡◌, ℕ, ◌-◌, List, [], ◌∷◌, ◌++◌, length, take, Option, None, Some, IfNone, refl, sym, ap, subst, ◌∙◌, arith, length-append}
use Rattle.std.proofs.lemmas.List.{append_assoc, nil_from_length, take_at}
use Rattle.std.specs.Int.{w16, w32, to_le_bytes}
use Rattle.ns_types.specs.Bytes.{AreBytes}
use Rattle.ns_types.proofs.ByteLemmas.{AreBytes-front, AreBytes-back}
use Rattle.ns_views.specs.Grammar.{DataFields, IsDataFrame, IsDataUplink, mhdr, ported, frame_before_mic}
use Rattle.ns_views.specs.Frame.{data_fields}
use Rattle.ns_views.specs.Parts.{before_payload, with_payload}
use Rattle.ns_views.specs.Laws.{PayloadsAreReplaced}

-- all before the payload
abbrev front : ℕ → DataFields → List ℕ
front reserved d = mhdr d.ftype reserved ∷ to_le_bytes w32 d.addr ++ (d.fctrl ∷ to_le_bytes w16 d.fcnt16 ++ d.fopts ++ ported d.port [])

-- the payload stands behind the port
ported-payload : (port : Option ℕ) (payload : List ℕ) → IfNone port (payload ≡ []) → ported port payload ≡ ported port [] ++ payload
ported-payload None payload h = sym h
ported-payload (Some port) payload h = refl

before_mic-front : (reserved : ℕ) (d : DataFields) → IfNone d.port (d.payload ≡ []) → frame_before_mic reserved d ≡ front reserved d ++ d.payload
before_mic-front reserved d h = rw (ported-payload d.port d.payload h) (simp append_assoc)

-- no payload where there is no port
kept_nil : (port : Option ℕ) (payload written : List ℕ) → IfNone port (payload ≡ []) → length written ≡ length payload → IfNone port (written ≡ [])
kept_nil None payload written h e = nil_from_length written (e ∙ ap length h)
kept_nil (Some port) payload written h e = tt

-- the front is what stands before the payload and the MIC
take-front : (x payload mic : List ℕ) → length mic ≡ 4 → take (length ((x ++ payload) ++ mic) - 4 - length payload) ((x ++ payload) ++ mic) ≡ x
take-front x payload mic h =
    let n = length ((x ++ payload) ++ mic) - 4 - length payload in
    let e : length x ≡ n = omega (arith, length-append (x ++ payload) mic, length-append x payload) in
    ap (take n) (append_assoc x payload mic) ∙ take_at x (payload ++ mic) n e

same_length : (x payload written mic : List ℕ) → length written ≡ length payload → length ((x ++ written) ++ mic) ≡ length ((x ++ payload) ++ mic)
same_length x payload written mic e = omega (arith, length-append (x ++ payload) mic, length-append x payload, length-append (x ++ written) mic, length-append x written)

-- a data frame with another payload
IsDataFrame-replaced : (bytes written : List ℕ) (d : DataFields) → IsDataFrame bytes d → AreBytes written → length written ≡ length d.payload →
    IsDataFrame (take (length bytes - 4 - length d.payload) bytes ++ written ++ d.mic) (record d { payload = written })
IsDataFrame-replaced bytes written d h b e =
    let r = h.parts.0 in
    let after : DataFields = record d { payload = written } in
    let nil = kept_nil d.port d.payload written h.no_port e in
    let whole : bytes ≡ (front r d ++ d.payload) ++ d.mic = h.parts.2 ∙ ap (λ x. x ++ d.mic) (before_mic-front r d h.no_port) in
    let kept : take (length bytes - 4 - length d.payload) bytes ≡ front r d = ap (λ x. take (length x - 4 - length d.payload) x) whole ∙ take-front (front r d) d.payload d.mic h.mic in
    let made = ap (λ x. x ++ written ++ d.mic) kept in
    record {
      parts = (r, h.parts.1, made ∙ ap (λ x. x ++ d.mic) (sym (before_mic-front r after nil)));
      ftype = h.ftype;
      addr = h.addr;
      fctrl = h.fctrl;
      fcnt16 = h.fcnt16;
      fopts = h.fopts;
      fopts_bytes = h.fopts_bytes;
      port = h.port;
      no_port = nil;
      payload_bytes = b;
      mic = h.mic;
      mic_bytes = h.mic_bytes;
      size = omega (arith, h.size, ap length made, ap length whole, same_length (front r d) d.payload written d.mic e);
    }

pub IsDataUplink-with_payload : PayloadsAreReplaced
IsDataUplink-with_payload bytes written u b e = (IsDataFrame-replaced bytes written (data_fields bytes) u.0 b e, u.1)

-- bytes that are a data uplink with another payload of the same length
pub IsDataUplink-replaced : (bytes written after : List ℕ) → IsDataUplink bytes (data_fields bytes) → AreBytes after → length written ≡ length (data_fields bytes).payload → after ≡ with_payload bytes written →
    IsDataUplink after (record (data_fields bytes) { payload = written })
IsDataUplink-replaced bytes written after u are e f =
    let front = AreBytes-front (before_payload bytes ++ written) (data_fields bytes).mic (subst AreBytes f are) in
    let b = AreBytes-back (before_payload bytes) written front in
    subst (λ x. IsDataUplink x (record (data_fields bytes) { payload = written })) (sym f) (IsDataUplink-with_payload bytes written u b e)
