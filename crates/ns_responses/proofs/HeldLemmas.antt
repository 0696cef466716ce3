-- Parts of a list between two places.
use Rattle.std.proofs.Common.{◌≡◌, ℕ, ◌+◌, ◌-◌, ◌≤◌, List, [], ◌++◌, length, take, drop, refl, sym, ap, ◌∙◌, arith, take-take, drop-drop}
use Rattle.std.specs.List.{slice_range, copy_within}
use Rattle.std.proofs.Math.Seq.{paste, take-append-add}
use Rattle.std.proofs.lemmas.List.{drop-take, length-take, length-drop, drop-append-le}
use Rattle.std.proofs.lemmas.List.Edits.{take-paste, length-paste}
use Rattle.std.proofs.lemmas.Grind.{common_steps}
use Rattle.std.proofs.lemmas.Slice.{take-put_mid}
use borrow.Rule.Slice.PartMut.{put_mid}
use Rattle.ns_responses.specs.Held.{HeldBytes, unready}

-- what is held between places
abbrev pub held : List ℕ → ℕ → ℕ → ℕ → HeldBytes
held xs s m e = record { ready = slice_range xs s m; unread = slice_range xs m e }

-- how many bytes lie between two places
pub length_range : (xs : List ℕ) (s e : ℕ) → s ≤ e → e ≤ length xs → length (slice_range xs s e) ≡ e - s
length_range xs s e ordered within = grind (arith, common_steps)

pub range_same : (xs : List ℕ) (s : ℕ) → slice_range xs s s ≡ []
range_same xs s = let none : s - s ≡ 0 = omega arith in ap (λ n. take n (drop s xs)) none

-- two places with nothing between them are one
pub range_none : (xs : List ℕ) (s e : ℕ) → s ≤ e → e ≤ length xs → slice_range xs s e ≡ [] → s ≡ e
range_none xs s e ordered within none =
    let count : 0 ≡ e - s = sym (ap length none) ∙ length_range xs s e ordered within in omega (arith, count, ordered)

-- the first of them
pub take-range : (xs : List ℕ) (s e n : ℕ) → s + n ≤ e → take n (slice_range xs s e) ≡ slice_range xs s (s + n)
take-range xs s e n within =
    let count : s + n - s ≡ n = omega arith in
    take-take n (e - s) (drop s xs) (omega arith) ∙ ap (λ k. take k (drop s xs)) (sym count)

-- those behind the first
pub drop-range : (xs : List ℕ) (s e n : ℕ) → s + n ≤ e → drop n (slice_range xs s e) ≡ slice_range xs (s + n) e
drop-range xs s e n within =
    let count : e - s ≡ n + (e - (s + n)) = omega arith in
    ap (λ k. drop n (take k (drop s xs))) count
    ∙ drop-take n (e - (s + n)) (drop s xs)
    ∙ ap (take (e - (s + n))) (drop-drop n s xs)

-- what lies behind a place, where the end is moved to the front
pub range_take : (xs : List ℕ) (s e : ℕ) → s ≤ e → slice_range xs s e ≡ drop s (take e xs)
range_take xs s e ordered =
    let sum : e ≡ s + (e - s) = omega arith in
    sym (drop-take s (e - s) xs) ∙ ap (λ k. drop s (take k xs)) (sym sum)

-- a part is left out, by moving what lies behind it
pub range_cut : (xs : List ℕ) (s e from to : ℕ) → from ≤ to → s + to ≤ e → e ≤ length xs
    → slice_range (copy_within xs (s + to) e (s + from)) s (e - (to - from)) ≡ take from (slice_range xs s e) ++ drop to (slice_range xs s e)
range_cut xs s e from to ordered within fits =
    let n = e - (s + to) in
    let end : e - (to - from) ≡ (s + from) + n = omega arith in
    let ys = drop (s + to) xs in
    let whole : take (e - (to - from)) (copy_within xs (s + to) e (s + from)) ≡ take (s + from) xs ++ take n ys =
    ap (λ k. take k (paste xs (s + from) ys n)) end ∙ take-paste xs (s + from) ys n (omega arith) (omega (arith, length-drop (s + to) xs)) in
    let short : s ≤ length (take (s + from) xs) = omega (arith, length-take (s + from) xs) in
    range_take _ s (e - (to - from)) (omega arith)
    ∙ ap (drop s) whole
    ∙ drop-append-le s (take (s + from) xs) (take n ys) short
    ∙ ap (λ l. l ++ take n ys) (sym (range_take xs s (s + from) (omega arith)) ∙ sym (take-range xs s e from (omega arith)))
    ∙ ap (λ l. take from (slice_range xs s e) ++ l) (sym (drop-range xs s e to within))

-- all is moved to the front
pub range_front : (xs : List ℕ) (s e : ℕ) → s ≤ e → e ≤ length xs → slice_range (copy_within xs s e 0) 0 (e - s) ≡ slice_range xs s e
range_front xs s e ordered fits =
    let count : e - s - 0 ≡ 0 + (e - s) = omega arith in
    ap (λ k. take k (paste xs 0 (drop s xs) (e - s))) count
    ∙ take-paste xs 0 (drop s xs) (e - s) (omega arith) (omega (arith, length-drop s xs))

-- all that is unread stands at the front of the room
pub record IsCompact (bytes : List ℕ) (start middle end : ℕ) (unread : List ℕ) : Type 0 where
  pub start_is : start ≡ 0
  pub middle_is : middle ≡ 0
  pub unread_is : slice_range bytes 0 end ≡ unread
  pub within : end ≤ length bytes
  pub sized : length bytes ≡ 4096

-- what the steps of `Held` do
module _ (xs : List ℕ) (s m e : ℕ) (now : HeldBytes) (is : held xs s m e ≡ now) (ordered : (s ≤ m) × (m ≤ e) × (e ≤ length xs)) where
  unread_is : slice_range xs m e ≡ now.unread
  unread_is = ap (λ (h : HeldBytes). h.unread) is

  pub unready_start : now.ready ≡ [] → s ≡ m
  unready_start none = range_none xs s m ordered.0 (omega (arith, ordered.1, ordered.2)) (ap (λ (h : HeldBytes). h.ready) is ∙ none)

  pub unread_count : length now.unread ≡ e - m
  unread_count = sym (ap length unread_is) ∙ length_range xs m e ordered.1 ordered.2

  pub given : (n : ℕ) → n ≤ m - s → held xs (s + n) m e ≡ record { ready = drop n now.ready; unread = now.unread }
  given n within =
      let ready = sym (drop-range xs s m n (omega (arith, ordered.0, within))) ∙ ap (λ (h : HeldBytes). drop n h.ready) is in
      λ i. record { ready = ready i; unread = unread_is i }

  pub skipped : (n : ℕ) → n ≤ length now.unread → held xs (m + n) (m + n) e ≡ unready (drop n now.unread)
  skipped n within =
      let fits : m + n ≤ e = omega (arith, within, unread_count, ordered.1) in
      let ready = range_same xs (m + n) in
      let unread = sym (drop-range xs m e n fits) ∙ ap (drop n) unread_is in
      λ i. record { ready = ready i; unread = unread i }

  pub released : now.ready ≡ [] → (n : ℕ) → n ≤ length now.unread → held xs s (m + n) e ≡ record { ready = take n now.unread; unread = drop n now.unread }
  released none n within =
      let fits : m + n ≤ e = omega (arith, within, unread_count, ordered.1) in
      let ready = ap (λ k. slice_range xs k (m + n)) (unready_start none) ∙ sym (take-range xs m e n fits) ∙ ap (take n) unread_is in
      let unread = sym (drop-range xs m e n fits) ∙ ap (drop n) unread_is in
      λ i. record { ready = ready i; unread = unread i }

  pub cut_out : now.ready ≡ [] → (from to : ℕ) → from ≤ to → to ≤ length now.unread
      → held (copy_within xs (m + to) e (m + from)) s m (e - (to - from)) ≡ unready (take from now.unread ++ drop to now.unread)
  cut_out none from to between within =
      let fits : m + to ≤ e = omega (arith, within, unread_count, ordered.1) in
      let ys = copy_within xs (m + to) e (m + from) in
      let ready = ap (λ k. slice_range ys k m) (unready_start none) ∙ range_same ys m in
      let unread = range_cut xs m e from to between fits ordered.2 ∙ ap (λ l. take from l ++ drop to l) unread_is in
      λ i. record { ready = ready i; unread = unread i }

  pub compact : (sized : length xs ≡ 4096) (ys : List ℕ) → ys ≡ copy_within xs m e 0 → IsCompact ys 0 0 (e - m) now.unread
  compact sized ys moved =
      let same : length ys ≡ length xs = ap length moved ∙ length-paste xs 0 (drop m xs) (e - m) (omega (arith, ordered.1, ordered.2)) (omega (arith, length-drop m xs, ordered.2)) in
      record {
        start_is = refl;
        middle_is = refl;
        unread_is = ap (λ l. slice_range l 0 (e - m)) moved ∙ range_front xs m e ordered.1 ordered.2 ∙ unread_is;
        within = omega (arith, same, ordered.2);
        sized = same ∙ sized;
      }

  pub compact_already : length xs ≡ 4096 → m ≤ 0 → IsCompact xs s m e now.unread
  compact_already sized none =
      let middle : m ≡ 0 = omega (arith, none) in
      record {
        start_is = omega (arith, none, ordered.0);
        middle_is = middle;
        unread_is = ap (λ k. slice_range xs k e) (sym middle) ∙ unread_is;
        within = ordered.2;
        sized = sized;
      }

-- bytes behind those that stand at the front of the room
pub filled : (xs ys unread : List ℕ) (end k n : ℕ) → end ≤ length xs → length ys ≡ k → n ≤ k → slice_range xs 0 end ≡ unread
    → held (put_mid end k xs ys) 0 0 (end + n) ≡ unready (unread ++ take n ys)
filled xs ys unread end k n within sized some is =
    let all = put_mid end k xs ys in
    let whole : take (end + length ys) all ≡ take end xs ++ ys = take-put_mid end k xs ys (end + length ys) refl within in
    let zero : end - 0 ≡ end = omega arith in
    let is_front : take end xs ≡ unread = rw zero at is in
    let count : length unread ≡ end = sym (ap length is) ∙ length_range xs 0 end (omega arith) within ∙ zero in
    let front : take (end + n) all ≡ unread ++ take n ys =
    sym (take-take (end + n) (end + length ys) all (omega (arith, sized)))
    ∙ ap (take (end + n)) whole
    ∙ ap (λ l. take (end + n) (l ++ ys)) is_front
    ∙ ap (λ k. take (k + n) (unread ++ ys)) (sym count)
    ∙ take-append-add unread ys n in
    let none = range_same all 0 in
    let size : end + n - 0 ≡ end + n = omega arith in
    λ i. record { ready = none i; unread = (ap (λ k. take k all) size ∙ front) i }

-- a piece behind compact bytes
pub filled_behind : (xs ys unread : List ℕ) (start middle end k n : ℕ) → IsCompact xs start middle end unread → length ys ≡ k → n ≤ length ys
    → held (put_mid end k xs ys) start middle (end + n) ≡ unready (unread ++ take n ys)
filled_behind xs ys unread start middle end k n c sized some =
    rw (c.start_is, c.middle_is) (filled xs ys unread end k n c.within sized (omega (arith, sized)) c.unread_is)
