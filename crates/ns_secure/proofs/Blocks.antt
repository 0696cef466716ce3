-- Bytes changed block by block.
use Rattle.std.proofs.Common.{◌≡◌, ℕ, ◌+◌, ◌*◌, ◌/◌, ◌%◌, List, [], ◌++◌, length, take, drop, flat_map, sym, ap, ◌∙◌, arith, length-append, append_assoc}
use Rattle.std.proofs.lemmas.List.{flat_map_more, take_at, drop_at, drop-drop, drop_all, append-nil}
use borrow.Rule.Slice.PartMut.{put_mid}
use Rattle.ns_aes_cmac.specs.Cmac.{block}
use Rattle.ns_secure.specs.Cipher.{numbers, each_block}
use Rattle.ns_secure.proofs.KeyStream.{numbers_more, numbers_none}

-- the first count blocks, changed
abbrev pub changed : (List ℕ → List ℕ) → List ℕ → ℕ → List ℕ
changed change bytes count = flat_map (λ i. change (block bytes i)) (numbers 0 count)

-- now is the bytes with their first count blocks changed
pub record IsChanged (change : List ℕ → List ℕ) (bytes now : List ℕ) (count : ℕ) : Type 0 where
  pub front_len : length (changed change bytes count) ≡ 16 * count
  pub is : now ≡ changed change bytes count ++ drop (16 * count) bytes

pub none_changed : (change : List ℕ → List ℕ) (bytes : List ℕ) → IsChanged change bytes bytes 0
none_changed change bytes =
    let none : changed change bytes 0 ≡ [] = ap (flat_map (λ i. change (block bytes i))) (numbers_none 0) in
    record { front_len = ap length none; is = sym (ap (λ (l : List ℕ). l ++ bytes) none) }

changed_more : (change : List ℕ → List ℕ) (bytes : List ℕ) (count : ℕ) → changed change bytes (count + 1) ≡ changed change bytes count ++ change (block bytes count)
changed_more change bytes count =
    let C : ℕ → List ℕ = λ i. change (block bytes i) in
    let one : 0 + count ≡ count = omega arith in
    ap (flat_map C) (numbers_more 0 count) ∙ sym (flat_map_more C [] (numbers 0 count) (0 + count)) ∙ ap (λ (k : ℕ). flat_map C (numbers 0 count) ++ C k) one

-- what stands behind the changed blocks is as it was
pub behind : (change : List ℕ → List ℕ) (bytes now : List ℕ) (count : ℕ) → IsChanged change bytes now count → drop (16 * count) now ≡ drop (16 * count) bytes
behind change bytes now count h = ap (drop (16 * count)) h.is ∙ drop_at (changed change bytes count) (drop (16 * count) bytes) (16 * count) h.front_len

-- the next block, changed and put in its place
pub more_changed : (change : List ℕ → List ℕ) (bytes now new old : List ℕ) (count k : ℕ) → IsChanged change bytes now count → old ≡ block now count → new ≡ change old → length new ≡ 16 → k ≡ 16 → IsChanged change bytes (put_mid (16 * count) k now new) (count + 1)
more_changed change bytes now new old count k h old_is new_is new_len k_is =
    let back = behind change bytes now count h in
    let front : take (16 * count) now ≡ changed change bytes count = ap (take (16 * count)) h.is ∙ take_at (changed change bytes count) (drop (16 * count) bytes) (16 * count) h.front_len in
    let block_is : change (block bytes count) ≡ new = ap change (ap (take 16) (sym back) ∙ sym old_is) ∙ sym new_is in
    let more : changed change bytes (count + 1) ≡ changed change bytes count ++ new = changed_more change bytes count ∙ ap (λ (l : List ℕ). changed change bytes count ++ l) block_is in
    let at : 16 * count + 16 ≡ 16 * (count + 1) = omega arith in
    let rest : drop k (drop (16 * count) now) ≡ drop (16 * (count + 1)) bytes = ap (λ (n : ℕ). drop n (drop (16 * count) now)) k_is ∙ ap (drop 16) back ∙ drop-drop 16 (16 * count) bytes ∙ ap (λ (n : ℕ). drop n bytes) at in
    record {
      front_len = ap length more ∙ omega (arith, length-append (changed change bytes count) new, h.front_len);
      is = ap (λ (l : List ℕ). l ++ (new ++ drop k (drop (16 * count) now))) front ∙ ap (λ (l : List ℕ). changed change bytes count ++ (new ++ l)) rest ∙ sym (append_assoc (changed change bytes count) new (drop (16 * (count + 1)) bytes)) ∙ ap (λ (l : List ℕ). l ++ drop (16 * (count + 1)) bytes) (sym more);
    }

pub all_changed : (change : List ℕ → List ℕ) (bytes now : List ℕ) (count : ℕ) → IsChanged change bytes now count → count ≡ length bytes / 16 → length bytes % 16 ≡ 0 → now ≡ each_block change bytes
all_changed change bytes now count h count_is whole =
    let none : drop (16 * count) bytes ≡ [] = drop_all (16 * count) bytes (omega arith) in
    h.is ∙ ap (λ (l : List ℕ). changed change bytes count ++ l) none ∙ append-nil (changed change bytes count) ∙ ap (changed change bytes) count_is
