-- The key stream, and a payload enciphered block by block.
use Rattle.std.proofs.Common.{◌≡◌, ℕ, zero, suc, ◌+◌, ◌*◌, ◌/◌, ◌≤◌, List, drop, [], ◌∷◌, ◌++◌, flat_map, length, refl, sym, ap, ◌∙◌, arith, add-one, add-zero, length-append}
use Rattle.std.proofs.lemmas.List.{flat_map_more}
use borrow.Rule.Slice.PartMut.{put_mid}
use Rattle.ns_aes_cmac.specs.Aes.{aes, xor_bytes}
use Rattle.ns_secure.specs.declared.Dir.{Dir}
use Rattle.ns_secure.specs.Cipher.{numbers, block_a, key_stream, cipher}
use Rattle.ns_secure.proofs.Stream.{enciphered, enciphered_none, block_more, enciphered_all}

numbers-suc : (first count : ℕ) → numbers first (suc count) ≡ numbers first count ++ (first + count) ∷ []
unfolding numbers
numbers-suc first zero = ap (λ (n : ℕ). n ∷ []) (sym (add-zero first))
numbers-suc first (suc count) =
    let last : first + 1 + count ≡ first + suc count = omega arith in
    ap (λ (l : List ℕ). first ∷ l) (numbers-suc (first + 1) count ∙ ap (λ (n : ℕ). numbers (first + 1) count ++ n ∷ []) last)

pub numbers_more : (first count : ℕ) → numbers first (count + 1) ≡ numbers first count ++ (first + count) ∷ []
numbers_more first count = ap (numbers first) (add-one count) ∙ numbers-suc first count

pub numbers_none : (first : ℕ) → numbers first 0 ≡ []
unfolding numbers
numbers_none first = refl

pub key_stream_none : (key : List ℕ) (dir : Dir) (addr counter : ℕ) → key_stream key dir addr counter 0 ≡ []
key_stream_none key dir addr counter = ap (flat_map (λ i. aes key (block_a dir addr counter i))) (numbers_none 1)

-- the stream of one more block, which is its last
pub key_stream_more : (key : List ℕ) (dir : Dir) (addr counter count last : ℕ) → last ≡ count + 1 → key_stream key dir addr counter last ≡ key_stream key dir addr counter count ++ aes key (block_a dir addr counter last)
key_stream_more key dir addr counter count last is =
    let S : ℕ → List ℕ = λ i. aes key (block_a dir addr counter i) in
    let one : 1 + count ≡ last = omega arith in
    ap (λ (k : ℕ). flat_map S (numbers 1 k)) is ∙ ap (flat_map S) (numbers_more 1 count) ∙ sym (flat_map_more S [] (numbers 1 count) (1 + count)) ∙ ap (λ (k : ℕ). flat_map S (numbers 1 count) ++ S k) one

-- so_far is the payload with its first count blocks enciphered
pub record IsEnciphered (key : List ℕ) (dir : Dir) (addr counter : ℕ) (payload so_far : List ℕ) (count : ℕ) : Type 0 where
  pub stream_len : length (key_stream key dir addr counter count) ≡ 16 * count
  pub bytes : so_far ≡ enciphered payload (key_stream key dir addr counter count)

pub none_enciphered : (key : List ℕ) (dir : Dir) (addr counter : ℕ) (payload : List ℕ) → IsEnciphered key dir addr counter payload payload 0
none_enciphered key dir addr counter payload =
    let none = key_stream_none key dir addr counter in
    record { stream_len = ap length none; bytes = enciphered_none payload _ none }

-- block is the next block of the stream, and new what stands behind the enciphered blocks with it added
pub more_enciphered : (key : List ℕ) (dir : Dir) (addr counter : ℕ) (payload so_far : List ℕ) (count : ℕ) (block old new : List ℕ) (at k last : ℕ) → IsEnciphered key dir addr counter payload so_far count → at ≡ 16 * count → last ≡ count + 1 → at ≤ length payload → length block ≡ 16 → block ≡ aes key (block_a dir addr counter last) → length so_far ≤ at + k → old ≡ drop at so_far → new ≡ xor_bytes old block ++ drop 16 old → IsEnciphered key dir addr counter payload (put_mid at k so_far new) last
more_enciphered key dir addr counter payload so_far count block old new at k last is at_is last_is within block_len block_is all old_is new_is =
    let stream = key_stream key dir addr counter count in
    let more : key_stream key dir addr counter last ≡ stream ++ block = key_stream_more key dir addr counter count last last_is ∙ ap (λ (l : List ℕ). stream ++ l) (sym block_is) in
    record {
      stream_len = ap length more ∙ omega (arith, length-append stream block, is.stream_len);
      bytes = block_more payload stream block so_far old new at k (is.stream_len ∙ sym at_is) within block_len is.bytes all old_is new_is ∙ ap (enciphered payload) (sym more);
    }

-- all blocks are enciphered
pub all_enciphered : (key : List ℕ) (dir : Dir) (addr counter : ℕ) (payload so_far : List ℕ) (count : ℕ) → IsEnciphered key dir addr counter payload so_far count → count ≡ (length payload + 15) / 16 → so_far ≡ cipher key dir addr counter payload
all_enciphered key dir addr counter payload so_far count is count_is =
    is.bytes ∙ enciphered_all payload (key_stream key dir addr counter count) (omega (arith, is.stream_len)) ∙ ap (λ (k : ℕ). xor_bytes payload (key_stream key dir addr counter k)) count_is
