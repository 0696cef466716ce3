-- A message that comes in pieces: which blocks are taken, and what waits.
use Rattle.std.proofs.Common.{◌≡◌, ◌≢◌, ℕ, zero, suc, ◌+◌, ◌-◌, ◌*◌, ◌/◌, ◌≤◌, ◌<◌, List, [], ◌∷◌, ◌++◌, length, take, drop, replicate, bit_xor, set, refl, sym, ap, subst, ◌∙◌, arith, inl, inr, ◌⊎◌, add-one}
use Rattle.std.proofs.lemmas.Bool.{ne_eqb}
use Rattle.std.proofs.lemmas.Bool.Decides.{eqb_tells}
use Rattle.std.proofs.lemmas.List.{append_assoc, length-append, length-take, length-take-le, length-drop, take-append-drop, take-append-le, drop-append-le, take_all, drop_at, set_at, drop-replicate, drop-drop}
use Rattle.std.proofs.Math.Seq.{drop-append-add}
use lib.Lanes.{zip2}
use Rattle.ns_aes_cmac.specs.Aes.{aes, xor_bytes}
use Rattle.ns_aes_cmac.specs.Cmac.{block_count, block, chained, cmac, doubled, last_block}
use Rattle.ns_aes_cmac.specs.CmacState.{CmacState, state_of, chained_from}
use Rattle.ns_aes_cmac.proofs.Mix.{zip2_xor}

-- ---- blocks of two messages joined

-- a block that lies in the first message
block_in_first : (a b : List ℕ) (j : ℕ) → 16 * j + 16 ≤ length a → block (a ++ b) j ≡ block a j
block_in_first a b j h =
    let long : 16 ≤ length (drop (16 * j) a) = rw length-drop (omega arith) in
    ap (take 16) (drop-append-le (16 * j) a b (omega arith)) ∙ take-append-le 16 (drop (16 * j) a) b long

-- a block that lies in the second message
block_in_second : (a b : List ℕ) (n j : ℕ) → length a ≡ 16 * n → block (a ++ b) (n + j) ≡ block b j
block_in_second a b n j h =
    let e : 16 * (n + j) ≡ length a + 16 * j = omega arith in
    ap (take 16) (ap (λ k. drop k (a ++ b)) e ∙ drop-append-add a b (16 * j))

chained_in_first : (key a b : List ℕ) (j : ℕ) → 16 * j ≤ length a → chained key (a ++ b) j ≡ chained key a j
unfolding chained
chained_in_first key a b zero h = refl
chained_in_first key a b (suc j) h =
    ap (aes key) (ap (λ c. xor_bytes c (block (a ++ b) j)) (chained_in_first key a b j (omega arith)) ∙ ap (xor_bytes (chained key a j)) (block_in_first a b j (omega arith)))

chained_through : (key a b : List ℕ) (n j : ℕ) → length a ≡ 16 * n → chained key (a ++ b) (n + j) ≡ chained_from key (chained key a n) b j
unfolding chained chained_from
chained_through key a b n zero h =
    let e : n + 0 ≡ n = omega arith in
    ap (chained key (a ++ b)) e ∙ chained_in_first key a b n (omega arith)
chained_through key a b n (suc j) h =
    let e : n + suc j ≡ suc (n + j) = omega arith in
    ap (chained key (a ++ b)) e ∙ ap (aes key) (ap (λ c. xor_bytes c (block (a ++ b) (n + j))) (chained_through key a b n j h) ∙ ap (xor_bytes (chained_from key (chained key a n) b j)) (block_in_second a b n j h))

-- ---- a message as the n blocks that are taken and what is pending

pub record IsCut (m taken pending : List ℕ) (n : ℕ) : Type 0 where
  pub whole : length taken ≡ 16 * n
  pub fits : length pending ≤ 16
  pub ends : (n ≡ 0) ⊎ (0 < length pending)
  pub parts : m ≡ taken ++ pending

count_of : (taken pending : List ℕ) (n : ℕ) → length taken ≡ 16 * n → length pending ≤ 16 → (n ≡ 0) ⊎ (0 < length pending) → block_count (taken ++ pending) - 1 ≡ n
count_of taken pending n whole fits ends = rw length-append (omega arith)

abbrev state_at : List ℕ → List ℕ → ℕ → CmacState
state_at key m n = record { key = key; chain = chained key m n; pending = block m n }

last_waits : (taken pending : List ℕ) (n : ℕ) → length taken ≡ 16 * n → length pending ≤ 16 → block (taken ++ pending) n ≡ pending
last_waits taken pending n whole fits = ap (take 16) (drop_at taken pending (16 * n) whole) ∙ take_all 16 pending fits

pub state_is : (key m taken pending : List ℕ) (n : ℕ) → IsCut m taken pending n → state_of key m ≡ record { key = key; chain = chained key taken n; pending = pending }
unfolding state_of
state_is key m taken pending n cut =
    ap (state_at key m) (ap (λ l. block_count l - 1) cut.parts ∙ count_of taken pending n cut.whole cut.fits cut.ends)
    ∙ ap (λ l. state_at key l n) cut.parts
    ∙ ap (λ l. record { key = key; chain = l; pending = block (taken ++ pending) n }) (chained_in_first key taken pending n (omega (arith, cut.whole)))
    ∙ ap (λ l. record { key = key; chain = chained key taken n; pending = l }) (last_waits taken pending n cut.whole cut.fits)

-- each message has a cut
cut_of : (m : List ℕ) → IsCut m (take (16 * (block_count m - 1)) m) (drop (16 * (block_count m - 1)) m) (block_count m - 1)
cut_of m = record {
  whole = length-take-le (16 * (block_count m - 1)) m (omega arith);
  fits = rw length-drop (omega arith);
  ends = elim (eqb_tells (block_count m - 1) 0) [ inl same ↦ inl same.1 | inr other ↦ (let differs : block_count m - 1 ≢ 0 = other.1 in inr (rw length-drop (omega arith))) ];
  parts = sym (take-append-drop (16 * (block_count m - 1)) m);
}

-- more bytes that wait
longer : (m taken pending more : List ℕ) (n : ℕ) → IsCut m taken pending n → length pending + length more ≤ 16 → IsCut (m ++ more) taken (pending ++ more) n
longer m taken pending more n cut room = record {
  whole = cut.whole;
  fits = rw length-append room;
  ends = elim cut.ends [ inl e ↦ inl e | inr h ↦ inr (rw length-append (omega arith)) ];
  parts = ap (λ l. l ++ more) cut.parts ∙ append_assoc taken pending more;
}

abbrev pub kept : CmacState → List ℕ → CmacState
kept s more = record s { pending = s.pending ++ more }

abbrev pub after_pending : CmacState → CmacState
after_pending s = record s { chain = aes s.key (xor_bytes s.chain s.pending); pending = [] }

abbrev pub after_blocks : CmacState → List ℕ → CmacState
after_blocks s blocks = record s { chain = chained_from s.key s.chain blocks (length blocks / 16) }

-- what a state of m says of its fields
old_is : (key m : List ℕ) (s : CmacState) → s ≡ state_of key m → s ≡ record { key = key; chain = chained key (take (16 * (block_count m - 1)) m) (block_count m - 1); pending = drop (16 * (block_count m - 1)) m }
old_is key m s e = e ∙ state_is key m _ _ _ (cut_of m)

-- the bytes all wait
pub short : (key m more : List ℕ) (s r : CmacState) → s ≡ state_of key m → r ≡ kept s more → length s.pending + length more ≤ 16 → r ≡ state_of key (m ++ more)
short key m more s r e f room =
    let n = block_count m - 1 in
    let taken = take (16 * n) m in
    let pending = drop (16 * n) m in
    let is = old_is key m s e in
    let room' : length pending + length more ≤ 16 = subst (λ (x : CmacState). length x.pending + length more ≤ 16) is room in
    f ∙ ap (λ (x : CmacState). kept x more) is ∙ sym (state_is key (m ++ more) taken (pending ++ more) n (longer m taken pending more n (cut_of m) room'))

one_more : (key taken b : List ℕ) (n : ℕ) → length taken ≡ 16 * n → length b ≡ 16 → aes key (xor_bytes (chained key taken n) b) ≡ chained key (taken ++ b) (n + 1)
unfolding chained
one_more key taken b n whole full =
    rw add-one (sym (ap (aes key) (ap (λ c. xor_bytes c (block (taken ++ b) n)) (chained_in_first key taken b n (omega (arith, whole))) ∙ ap (xor_bytes (chained key taken n)) (last_waits taken b n whole (omega (arith, full))))))

-- a block is filled and taken, then whole blocks, and the rest waits
pub long : (key m front blocks last bytes : List ℕ) (s s1 s2 s3 r : CmacState) → s ≡ state_of key m → bytes ≡ front ++ (blocks ++ last)
    → s1 ≡ kept s front → length s.pending + length front ≡ 16 → s2 ≡ after_pending s1 → s3 ≡ after_blocks s2 blocks → r ≡ kept s3 last
    → length blocks ≡ 16 * (length blocks / 16) → 0 < length last → length last ≤ 16 → r ≡ state_of key (m ++ bytes)
long key m front blocks last bytes s s1 s2 s3 r e parts f1 full f2 f3 f4 exact some fits =
    let n = block_count m - 1 in
    let k = length blocks / 16 in
    let taken = take (16 * n) m in
    let pending = drop (16 * n) m in
    let cut : IsCut m taken pending n = cut_of m in
    let is = old_is key m s e in
    let full' : length (pending ++ front) ≡ 16 = rw length-append (subst (λ (x : CmacState). length x.pending + length front ≡ 16) is full) in
    let whole : length taken ≡ 16 * n = cut.whole in
    let whole1 : length (taken ++ (pending ++ front)) ≡ 16 * (n + 1) = length-append taken (pending ++ front) ∙ omega (arith, whole, full') in
    let all : IsCut (m ++ bytes) ((taken ++ (pending ++ front)) ++ blocks) last (n + 1 + k) = record {
      whole = length-append (taken ++ (pending ++ front)) blocks ∙ omega (arith, whole1, exact);
      fits = fits;
      ends = inr some;
      parts = ap (λ l. l ++ bytes) cut.parts ∙ ap (λ l. taken ++ pending ++ l) parts ∙ simp append_assoc;
    } in
    let now : CmacState = record { key = key; chain = chained_from key (aes key (xor_bytes (chained key taken n) (pending ++ front))) blocks k; pending = [] ++ last } in
    let chain : chained_from key (aes key (xor_bytes (chained key taken n) (pending ++ front))) blocks k ≡ chained key ((taken ++ (pending ++ front)) ++ blocks) (n + 1 + k) =
    ap (λ c. chained_from key c blocks k) (one_more key taken (pending ++ front) n whole full') ∙ sym (chained_through key (taken ++ (pending ++ front)) blocks (n + 1) k whole1) in
    let reached : r ≡ now =
    f4 ∙ ap (λ (x : CmacState). kept x last) (f3 ∙ ap (λ (x : CmacState). after_blocks x blocks) (f2 ∙ ap after_pending (f1 ∙ ap (λ (x : CmacState). kept x front) is))) in
    reached ∙ ap (λ c. record { key = key; chain = c; pending = last }) chain ∙ sym (state_is key (m ++ bytes) ((taken ++ (pending ++ front)) ++ blocks) last (n + 1 + k) all)

-- ---- the fields

-- no message yet
pub empty : (key : List ℕ) → record { key = key; chain = replicate 16 0; pending = [] } ≡ state_of key []
unfolding state_of chained
empty key = refl

-- zeros that stay behind more bytes
pub still_zero : (p : List ℕ) (len n : ℕ) → drop len p ≡ replicate (16 - len) 0 → drop (len + n) p ≡ replicate (16 - (len + n)) 0
still_zero p len n zeros =
    let e : 16 - len - n ≡ 16 - (len + n) = omega arith in
    sym (drop-drop n len p) ∙ ap (drop n) zeros ∙ drop-replicate n (16 - len) 0 ∙ ap (λ k. replicate k 0) e

pub pending_taken : (key chain p : List ℕ) (len : ℕ) (r : List ℕ) → length p ≡ 16 → length (take len p) ≡ 16 → r ≡ aes key (zip2 bit_xor chain p)
    → record { key = key; chain = r; pending = [] } ≡ after_pending (record { key = key; chain = chain; pending = take len p })
pending_taken key chain p len r long full e =
    let all : 16 ≤ len = omega (arith, sym (length-take len p) ∙ full) in
    let same : take len p ≡ p = take_all len p (omega (arith, long)) in
    ap (λ c. record { key = key; chain = c; pending = [] }) (e ∙ ap (aes key) (zip2_xor chain p ∙ ap (xor_bytes chain) (sym same)))

-- ---- the end

pub cmac_is : (key m : List ℕ) (s : CmacState) → s ≡ state_of key m → aes s.key (xor_bytes s.chain (last_block s.key s.pending)) ≡ cmac key m
unfolding cmac state_of
cmac_is key m s e = ap (λ (x : CmacState). aes x.key (xor_bytes x.chain (last_block x.key x.pending))) e

module _ (key b zeros subkey : List ℕ) (z : zeros ≡ aes key (replicate 16 0)) (s : subkey ≡ doubled zeros) where
  pub whole_last : (p l : List ℕ) → p ≡ b → length b ≡ 16 → l ≡ zip2 bit_xor p subkey → l ≡ last_block key b
  unfolding last_block
  whole_last p l same full e =
      rw full (e ∙ zip2_xor p subkey ∙ ap (λ x. xor_bytes x subkey) same ∙ ap (xor_bytes b) (s ∙ ap doubled z))

  pub short_last : (p l second : List ℕ) → p ≡ b ++ replicate (16 - length b) 0 → length b < 16 → second ≡ doubled subkey → l ≡ zip2 bit_xor (set p (length b) 0x80) second → l ≡ last_block key b
  unfolding last_block
  short_last p l second padded below d e =
      let not_full : length b ≢ 16 = omega arith in
      let room : 16 - length b ≡ suc (15 - length b) = omega arith in
      let marked : set p (length b) 0x80 ≡ b ++ 0x80 ∷ replicate (15 - length b) 0 =
      ap (λ q. set q (length b) 0x80) (padded ∙ ap (λ k. b ++ replicate k 0) room) ∙ set_at b 0 (replicate (15 - length b) 0) 0x80 (length b) refl in
      rw (ne_eqb (length b) 16 not_full) (e ∙ zip2_xor (set p (length b) 0x80) second ∙ ap (λ x. xor_bytes x second) marked ∙ ap (xor_bytes (b ++ 0x80 ∷ replicate (15 - length b) 0)) (d ∙ ap doubled (s ∙ ap doubled z)))

-- the pending bytes, then zeros
pub padded_is : (p : List ℕ) (len : ℕ) → length (take len p) ≡ len → drop len p ≡ replicate (16 - len) 0 → p ≡ take len p ++ replicate (16 - length (take len p)) 0
padded_is p len size zeros = sym (take-append-drop len p) ∙ ap (λ l. take len p ++ l) (zeros ∙ ap (λ k. replicate (16 - k) 0) (sym size))
