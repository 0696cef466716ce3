-- The bytes of a frame of the grammar are bytes.
use Rattle.std.proofs.Common.{ℕ, zero, suc, ◌<◌, ◌≤◌, List, ◌∷◌, ◌++◌, Option, None, Some, IfSome, subst, sym, arith}
use Rattle.std.specs.Int.{w16, w32, w64, to_le_bytes, byte_at, bytes_low_first}
use Rattle.std.proofs.lemmas.List.Elements.{All-nil, All-cons, All-append}
use Rattle.ns_types.specs.Bytes.{AreBytes}
use Rattle.ns_views.specs.Grammar.{DataFields, JoinFields, IsDataFrame, IsJoinRequest, frame_before_mic, mhdr, ported, join_request}

abbrev cons : (b : ℕ) (bytes : List ℕ) → b < 256 → AreBytes bytes → AreBytes (b ∷ bytes)
cons = All-cons (λ b. b < 256)

abbrev append : (xs ys : List ℕ) → AreBytes xs → AreBytes ys → AreBytes (xs ++ ys)
append = All-append (λ b. b < 256)

one_byte : (k n : ℕ) → byte_at k n < 256
one_byte zero n = omega arith
one_byte (suc k) n = omega arith

number_bytes : (k count n : ℕ) → AreBytes (bytes_low_first k count n)
number_bytes k zero n = All-nil (λ b. b < 256)
number_bytes k (suc count) n = cons (byte_at k n) (bytes_low_first (suc k) count n) (one_byte k n) (number_bytes (suc k) count n)

two_bytes : (n : ℕ) → AreBytes (to_le_bytes w16 n)
two_bytes n = number_bytes 0 2 n

four_bytes : (n : ℕ) → AreBytes (to_le_bytes w32 n)
four_bytes n = number_bytes 0 4 n

eight_bytes : (n : ℕ) → AreBytes (to_le_bytes w64 n)
eight_bytes n = number_bytes 0 8 n

ported_bytes : (port : Option ℕ) (payload : List ℕ) → IfSome port (λ n. n < 256) → AreBytes payload → AreBytes (ported port payload)
ported_bytes None payload h p = All-nil (λ b. b < 256)
ported_bytes (Some port) payload h p = cons port payload h p

mhdr_byte : (ftype reserved : ℕ) → ftype ≤ 5 → reserved < 8 → mhdr ftype reserved < 256
mhdr_byte ftype reserved f r = omega arith

pub IsDataFrame-AreBytes : (bytes : List ℕ) (d : DataFields) → IsDataFrame bytes d → AreBytes bytes
IsDataFrame-AreBytes bytes d h =
    let reserved = h.parts.0 in
    let addr = to_le_bytes w32 d.addr in
    let counter = to_le_bytes w16 d.fcnt16 in
    let last = ported d.port d.payload in
    let head = cons (mhdr d.ftype reserved) addr (mhdr_byte d.ftype reserved h.ftype.1 h.parts.1) (four_bytes d.addr) in
    let counted = cons d.fctrl counter h.fctrl (two_bytes d.fcnt16) in
    let options = append (d.fctrl ∷ counter) d.fopts counted h.fopts_bytes in
    let behind = append (d.fctrl ∷ counter ++ d.fopts) last options (ported_bytes d.port d.payload h.port h.payload_bytes) in
    let before = append (mhdr d.ftype reserved ∷ addr) (d.fctrl ∷ counter ++ d.fopts ++ last) head behind in
    subst AreBytes (sym h.parts.2) (append (frame_before_mic reserved d) d.mic before h.mic_bytes)

pub IsJoinRequest-AreBytes : (bytes : List ℕ) (j : JoinFields) → IsJoinRequest bytes j → AreBytes bytes
IsJoinRequest-AreBytes bytes j h =
    let reserved = h.parts.0 in
    let join_eui = to_le_bytes w64 j.join_eui in
    let dev_eui = to_le_bytes w64 j.dev_eui in
    let nonce = to_le_bytes w16 j.nonce in
    let first = mhdr join_request reserved ∷ join_eui in
    let head = cons (mhdr join_request reserved) join_eui (mhdr_byte join_request reserved (omega arith) h.parts.1) (eight_bytes j.join_eui) in
    let both = append first dev_eui head (eight_bytes j.dev_eui) in
    let before = append (first ++ dev_eui) nonce both (two_bytes j.nonce) in
    subst AreBytes (sym h.parts.2) (append (first ++ dev_eui ++ nonce) j.mic before h.mic_bytes)
