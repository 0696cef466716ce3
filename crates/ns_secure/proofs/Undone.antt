-- A change of each block, undone block by block.
use Rattle.std.proofs.Common.{◌≡◌, ℕ, zero, suc, ◌+◌, ◌*◌, ◌/◌, ◌%◌, ◌<◌, ◌≤◌, List, ◌++◌, length, take, drop, flat_map, refl, sym, ap, ◌∙◌, arith, add-zero, length-append}
use Rattle.std.proofs.Math.Seq.{take-add}
use Rattle.ns_types.proofs.ByteLemmas.{length-part}
use Rattle.std.proofs.lemmas.List.{take_at, take_all, drop_at, drop-drop, get_or-take, get_or-drop}
use Rattle.ns_aes_cmac.specs.Aes.{IsBlock}
use Rattle.ns_aes_cmac.specs.Cmac.{block}
use Rattle.ns_secure.specs.Cipher.{numbers, each_block}
use Rattle.ns_secure.specs.Laws.{AreBlocks}

-- each of the count numbers from first on
abbrev pub EachFrom : ℕ → ℕ → (ℕ → Type 0) → Type 0
EachFrom first count P = (i : ℕ) → first ≤ i → i < first + count → P i

joined_len : (h : ℕ → List ℕ) (first count : ℕ) → EachFrom first count (λ i. length (h i) ≡ 16) → length (flat_map h (numbers first count)) ≡ 16 * count
unfolding numbers
joined_len h first zero each = refl
joined_len h first (suc count) each =
    let rest = joined_len h (first + 1) count (λ i low high. each i (omega arith) (omega arith)) in
    omega (arith, length-append (h first) (flat_map h (numbers (first + 1) count)), each first (omega arith) (omega arith), rest)

joined_block : (h : ℕ → List ℕ) (first count i : ℕ) → EachFrom first count (λ i. length (h i) ≡ 16) → i < count → block (flat_map h (numbers first count)) i ≡ h (first + i)
unfolding numbers
joined_block h first zero i each within = absurd (omega (arith, within))
joined_block h first (suc count) zero each within = take_at (h first) (flat_map h (numbers (first + 1) count)) 16 (each first (omega arith) (omega arith)) ∙ ap h (sym (add-zero first))
joined_block h first (suc count) (suc i) each within =
    let rest = flat_map h (numbers (first + 1) count) in
    let at : 16 * suc i ≡ 16 + 16 * i = omega arith in
    let next : first + 1 + i ≡ first + suc i = omega arith in
    ap (λ (n : ℕ). take 16 (drop n (h first ++ rest))) at ∙ ap (take 16) (sym (drop-drop (16 * i) 16 (h first ++ rest))) ∙ ap (λ (l : List ℕ). take 16 (drop (16 * i) l)) (drop_at (h first) rest 16 (each first (omega arith) (omega arith))) ∙ joined_block h (first + 1) count i (λ j low high. each j (omega arith) (omega arith)) (omega arith) ∙ ap h next

joined_agree : (f h : ℕ → List ℕ) (first count : ℕ) → EachFrom first count (λ i. f i ≡ h i) → flat_map f (numbers first count) ≡ flat_map h (numbers first count)
unfolding numbers
joined_agree f h first zero each = refl
joined_agree f h first (suc count) each =
    ap (λ (l : List ℕ). l ++ flat_map f (numbers (first + 1) count)) (each first (omega arith) (omega arith)) ∙ ap (λ (l : List ℕ). h first ++ l) (joined_agree f h (first + 1) count (λ i low high. each i (omega arith) (omega arith)))

blocks_joined : (bytes : List ℕ) (first count : ℕ) → flat_map (block bytes) (numbers first count) ≡ take (16 * count) (drop (16 * first) bytes)
unfolding numbers
blocks_joined bytes first zero = refl
blocks_joined bytes first (suc count) =
    let at : 16 * (first + 1) ≡ 16 * first + 16 = omega arith in
    let all : 16 + 16 * count ≡ 16 * suc count = omega arith in
    let back = drop (16 * first) bytes in
    ap (λ (l : List ℕ). take 16 back ++ l) (blocks_joined bytes (first + 1) count ∙ ap (λ (n : ℕ). take (16 * count) (drop n bytes)) at ∙ ap (take (16 * count)) (sym (drop-drop 16 (16 * first) bytes))) ∙ sym (take-add 16 (16 * count) back) ∙ ap (λ (n : ℕ). take n back) all

-- a block of bytes is a block
pub block_is : (bytes : List ℕ) → AreBlocks bytes → (i : ℕ) → i < length bytes / 16 → IsBlock (block bytes i)
block_is bytes h i within =
    let size : length (block bytes i) ≡ 16 = length-part bytes (16 * i) 16 (omega arith) in
    (size, λ k d inside. rw (get_or-take 16 (drop (16 * i) bytes) k d (omega arith), get_or-drop (16 * i) bytes k d) (h.0 (16 * i + k) d (omega arith)))

-- where undo gives each block back that change changed, it gives back the bytes
pub undone : (undo change : List ℕ → List ℕ) (bytes : List ℕ) → length bytes % 16 ≡ 0 → EachFrom 0 (length bytes / 16) (λ i. length (change (block bytes i)) ≡ 16) → EachFrom 0 (length bytes / 16) (λ i. undo (change (block bytes i)) ≡ block bytes i) → each_block undo (each_block change bytes) ≡ bytes
undone undo change bytes whole sizes undoes =
    let count = length bytes / 16 in
    let changed = each_block change bytes in
    let count_is : length changed / 16 ≡ count = omega (arith, joined_len (λ i. change (block bytes i)) 0 count sizes) in
    let each : EachFrom 0 count (λ i. undo (block changed i) ≡ block bytes i) = λ i low high. let at : 0 + i ≡ i = omega arith in ap undo (joined_block (λ j. change (block bytes j)) 0 count i sizes (omega arith) ∙ ap (λ (j : ℕ). change (block bytes j)) at) ∙ undoes i low high in
    ap (λ (n : ℕ). flat_map (λ i. undo (block changed i)) (numbers 0 n)) count_is ∙ joined_agree (λ i. undo (block changed i)) (block bytes) 0 count each ∙ blocks_joined bytes 0 count ∙ take_all (16 * count) bytes (omega arith)
