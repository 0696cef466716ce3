-- Sums of bytes, and a payload enciphered block by block.
use Rattle.std.proofs.Common.{◌≡◌, ℕ, zero, suc, ◌+◌, ◌<◌, ◌≤◌, min, List, [], ◌∷◌, ◌++◌, length, take, drop, get_or, set, bit_xor, refl, sym, ap, ◌∙◌, arith, add-one, length-append, length-drop, append_assoc}
use Rattle.std.proofs.lemmas.List.{take_at, drop_at, drop-drop, drop_all, drop_min, append-nil}
use borrow.Rule.Slice.PartMut.{put_mid}
use Rattle.ns_aes_cmac.specs.Aes.{xor_bytes}

-- the first i bytes summed, and the others as they were
abbrev pub summed : ℕ → List ℕ → List ℕ → List ℕ
summed i bytes stream = xor_bytes (take i bytes) stream ++ drop i bytes

summed-suc : (i : ℕ) (bytes stream : List ℕ) → i < length bytes → i < length stream → set (summed i bytes stream) i (bit_xor (get_or (summed i bytes stream) i 0) (get_or stream i 0)) ≡ summed (suc i) bytes stream
unfolding xor_bytes
summed-suc zero (x ∷ bytes) (y ∷ stream) h k = refl
summed-suc (suc i) (x ∷ bytes) (y ∷ stream) h k = ap (λ (l : List ℕ). bit_xor x y ∷ l) (summed-suc i bytes stream (omega arith) (omega arith))
summed-suc i bytes stream h k = absurd (omega (arith, h, k))

pub summed_more : (i : ℕ) (bytes stream : List ℕ) → i < length bytes → i < length stream → set (summed i bytes stream) i (bit_xor (get_or (summed i bytes stream) i 0) (get_or stream i 0)) ≡ summed (i + 1) bytes stream
summed_more i bytes stream h k = rw add-one (summed-suc i bytes stream h k)

-- a list is summed as far as the stream goes
pub xor_take : (n : ℕ) (bytes stream : List ℕ) → min (length bytes) (length stream) ≤ n → xor_bytes (take n bytes) stream ≡ xor_bytes bytes stream
unfolding xor_bytes
xor_take zero (x ∷ bytes) (y ∷ stream) h = absurd (omega (arith, h))
xor_take (suc n) (x ∷ bytes) (y ∷ stream) h = ap (λ (l : List ℕ). bit_xor x y ∷ l) (xor_take n bytes stream (omega (arith, h)))
xor_take zero bytes stream h = refl
xor_take (suc n) bytes stream h = refl

pub length-xor : (bytes stream : List ℕ) → length (xor_bytes bytes stream) ≡ min (length bytes) (length stream)
unfolding xor_bytes
length-xor (x ∷ bytes) (y ∷ stream) = omega (arith, length-xor bytes stream)
length-xor bytes stream = omega arith

-- a stream that goes on
pub xor-append : (bytes front back : List ℕ) → xor_bytes bytes (front ++ back) ≡ xor_bytes bytes front ++ xor_bytes (drop (length front) bytes) back
unfolding xor_bytes
xor-append (x ∷ bytes) (y ∷ front) back = ap (λ (l : List ℕ). bit_xor x y ∷ l) (xor-append bytes front back)
xor-append [] [] back = refl
xor-append [] (y ∷ front) back = refl
xor-append (x ∷ bytes) [] back = refl

pub xor_nil : (bytes : List ℕ) → xor_bytes bytes [] ≡ []
unfolding xor_bytes
xor_nil [] = refl
xor_nil (x ∷ bytes) = refl

pub summed_none : (bytes stream : List ℕ) → bytes ≡ summed 0 bytes stream
unfolding xor_bytes
summed_none bytes stream = refl

pub summed_all : (i : ℕ) (bytes stream : List ℕ) → length stream ≡ 16 → i ≡ min 16 (length bytes) → summed i bytes stream ≡ xor_bytes bytes stream ++ drop 16 bytes
summed_all i bytes stream long at =
    let front = xor_take i bytes stream (omega arith) in
    let back : drop i bytes ≡ drop 16 bytes = ap (λ (k : ℕ). drop k bytes) at ∙ drop_min 16 bytes in
    cc

-- ---- a payload whose front is summed with a stream of whole blocks

-- the payload after the stream so far
abbrev pub enciphered : List ℕ → List ℕ → List ℕ
enciphered payload stream = xor_bytes payload stream ++ drop (length stream) payload

pub enciphered_none : (payload stream : List ℕ) → stream ≡ [] → payload ≡ enciphered payload stream
enciphered_none payload stream none = sym (rw (none, xor_nil) refl)

enciphered_more : (payload stream block : List ℕ) → length block ≡ 16 → xor_bytes payload stream ++ (xor_bytes (drop (length stream) payload) block ++ drop 16 (drop (length stream) payload)) ≡ enciphered payload (stream ++ block)
enciphered_more payload stream block long =
    let behind : drop 16 (drop (length stream) payload) ≡ drop (length (stream ++ block)) payload =
    drop-drop 16 (length stream) payload ∙ ap (λ (k : ℕ). drop k payload) (sym (length-append stream block ∙ ap (λ (k : ℕ). length stream + k) long)) in
    rw (behind, xor-append payload stream block) (sym (append_assoc (xor_bytes payload stream) (xor_bytes (drop (length stream) payload) block) (drop (length (stream ++ block)) payload)))

-- one more block of the stream, added to what stands behind the front
pub block_more : (payload stream block so_far old new : List ℕ) (at k : ℕ) → length stream ≡ at → at ≤ length payload → length block ≡ 16 → so_far ≡ enciphered payload stream → length so_far ≤ at + k → old ≡ drop at so_far → new ≡ xor_bytes old block ++ drop 16 old → put_mid at k so_far new ≡ enciphered payload (stream ++ block)
block_more payload stream block so_far old new at k stream_len within block_len is all old_is new_is =
    let front_len : length (xor_bytes payload stream) ≡ at = omega (arith, length-xor payload stream) in
    let front : take at so_far ≡ xor_bytes payload stream = rw is (take_at (xor_bytes payload stream) (drop (length stream) payload) at front_len) in
    let back : drop at so_far ≡ drop (length stream) payload = rw is (drop_at (xor_bytes payload stream) (drop (length stream) payload) at front_len) in
    let none : drop k (drop at so_far) ≡ [] = drop_all k (drop at so_far) (omega (arith, length-drop at so_far)) in
    let written : put_mid at k so_far new ≡ xor_bytes payload stream ++ new = ap (λ (l : List ℕ). l ++ (new ++ drop k (drop at so_far))) front ∙ ap (λ (l : List ℕ). xor_bytes payload stream ++ (new ++ l)) none ∙ ap (λ (l : List ℕ). xor_bytes payload stream ++ l) (append-nil new) in
    let summed_is : new ≡ xor_bytes (drop (length stream) payload) block ++ drop 16 (drop (length stream) payload) = new_is ∙ ap (λ (l : List ℕ). xor_bytes l block ++ drop 16 l) (old_is ∙ back) in
    written ∙ ap (λ (l : List ℕ). xor_bytes payload stream ++ l) summed_is ∙ enciphered_more payload stream block block_len

-- once the stream is as long as the payload, all is enciphered
pub enciphered_all : (payload stream : List ℕ) → length payload ≤ length stream → enciphered payload stream ≡ xor_bytes payload stream
enciphered_all payload stream h =
    let none : drop (length stream) payload ≡ [] = drop_all (length stream) payload h in
    ap (λ (l : List ℕ). xor_bytes payload stream ++ l) none ∙ append-nil (xor_bytes payload stream)
