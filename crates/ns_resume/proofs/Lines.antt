-- Lines as they are read, and the text that they make.
use Rattle.std.proofs.Common.{◌≡◌, ℕ, ◌+◌, ◌<◌, ◌≤◌, ◌==◌, Bool, true, false, List, [], ◌++◌, length, take, drop, Option, None, Some, IfSome, Result, Ok, Bor, refl, sym, ap, subst, ◌∙◌, append_assoc, append-nil, arith}
use Rattle.std.specs.Io.KnownBytes.{Consumes}
use Rattle.std.specs.Prelude.{slice_index, if◌then◌else◌}
use Rattle.std.specs.Io.{StartsWith}
use Rattle.std.specs.Io.BufRead.{FillKeeps, DropsConsumable}
use Rattle.std.proofs.KnownBytes.{Consumes-nil, Consumes-kept, Consumes-trans}
use Rattle.std.proofs.BufReadLemmas.{Consumes_shown}
use mir.Val.{bool_byte}
use Rattle.std.specs.Cmp.Lexicographic.{same_text}
use Rattle.std.proofs.lemmas.Bool.{eqb-true, false_from_ne_true}
use Rattle.std.proofs.lemmas.List.{length-take-le, get_or-take, nil_from_length, take-append-drop}
use Rattle.std.proofs.lemmas.List.Elements.{All-from_get_or}
use Rattle.std.proofs.lemmas.List.Folds.{list_any_none}
use Rattle.memchr.specs.Find.{Nowhere, Passes, is_byte}
use Rattle.ns_lines.specs.Text.{has_line_feed}
use Rattle.ns_lines.proofs.LineLemmas.{joined}
use Rattle.ns_resume.specs.Resumed.{IsAllOf}
use Rattle.ns_resume.specs.Private.Lines.{IsPart, feed_of, feed_read, is_front, IsFrontOf}

-- ---- what a source has

pub known-then : (first second : Option (List ℕ)) (text rest : List ℕ) → Consumes first second text → IsAllOf second rest → IsAllOf first (text ++ rest)
known-then None second text rest read all = tt
known-then (Some xs) None text rest read all = absurd read
known-then (Some xs) (Some ys) text rest read all = read ∙ ap (λ l. text ++ l) all

-- ---- line feeds

-- the bytes before the first line feed
pub no_feed_before : (xs : List ℕ) (n : ℕ) → n ≤ length xs → Nowhere (Passes (is_byte 10) xs) 0 n → has_line_feed (take n xs) ≡ false
no_feed_before xs n within none =
    list_any_none (λ b. b == 10) (take n xs) (All-from_get_or (λ b. (b == 10) ≡ false) (take n xs) 0 (λ k less.
    let long : length (take n xs) ≡ n = length-take-le n xs within in
    let below : k < n = omega (arith, less, long) in
    ap (λ x. x == 10) (get_or-take n xs k 0 below) ∙ false_from_ne_true (slice_index xs k == 10) (none k (omega arith) below)))

-- ---- a line, as far as it was read

pub front-is : (whole : Bool) (part line : List ℕ) → is_front whole part line ≡ true → IsFrontOf whole part line
front-is true part line is = ([], same_text line part (sym is) ∙ sym (append-nil part), λ w. refl)
front-is false part line is = (
  drop (length part) line,
  sym (take-append-drop (length part) line) ∙ ap (λ l. l ++ drop (length part) line) (sym (same_text part (take (length part) line) (sym is))),
  λ w. absurd (cc w),
)

pub empty : (xs : List ℕ) (n : ℕ) → n ≡ length xs → (n == 0) ≡ true → xs ≡ []
empty xs n long none = nil_from_length xs (sym long ∙ eqb-true n 0 none)

-- ---- a part of a line

-- what a part has with a line feed or without one
abbrev pub ended_by : Bool → Option Bool
ended_by whole = if whole then Some true else None

by_source : (whole : Bool) → ended_by whole ≡ Some false → ⊥
by_source true is = cc
by_source false is = cc

feed_behind : (whole : Bool) → feed_of whole ≡ feed_read (ended_by whole)
feed_behind true = refl
feed_behind false = refl

feed_bytes : (whole : Bool) → bool_byte whole ≡ length (feed_of whole)
feed_bytes true = refl
feed_bytes false = refl

-- what was shown up to a line feed, and with that where there is one, was taken
pub part_taken : {E : Type 0} (old kept new : Option (List ℕ)) (limit : Option ℕ) (r : Result (Bor (List ℕ)) E) (shown : Bor (List ℕ)) (before after : List ℕ) (len feed : ℕ) (whole : Bool) (ended : Option Bool)
    → IfSome old (λ xs. StartsWith xs shown.now) → IfSome old (λ xs. length shown.now ≡ 0 → xs ≡ []) → FillKeeps old kept limit r → r ≡ Ok shown
    → len + length (feed_of whole) ≤ length shown.now → has_line_feed (take len shown.now) ≡ false
    → take (len + length (feed_of whole)) shown.now ≡ take len shown.now ++ feed_of whole
    → after ≡ before ++ take len shown.now → feed ≡ bool_byte whole → DropsConsumable kept new limit (len + feed)
    → ended_by whole ≡ ended → IsPart old new before after ended
part_taken old kept new limit r shown before after len feed whole ended front end keeps is within none fed appended feed-is drops by =
    let filled = subst (FillKeeps old kept limit) is keeps in
    let bytes : feed ≡ length (feed_of whole) = feed-is ∙ feed_bytes whole in
    let taken = subst (λ n. DropsConsumable kept new limit (len + n)) bytes drops in
    let moved = Consumes_shown old kept new limit shown.now (len + length (feed_of whole)) within front end filled.0 filled.1 taken in
    record {
      part = take len shown.now;
      appended = appended;
      no_feed = none;
      consumed = subst (Consumes old new) (fed ∙ ap (λ l. take len shown.now ++ l) (feed_behind whole ∙ ap feed_read by)) moved.0;
      at_end = λ so. absurd (by_source whole (by ∙ so));
    }

-- nothing was shown, and the source has ended
pub part_ended : {E : Type 0} (old kept : Option (List ℕ)) (limit : Option ℕ) (r : Result (Bor (List ℕ)) E) (shown before : List ℕ)
    → IfSome old (λ xs. length shown ≡ 0 → xs ≡ []) → FillKeeps old kept limit r → (length shown == 0) ≡ true → IsPart old kept before before (Some false)
part_ended old kept limit r shown before end keeps none = record {
  part = [];
  appended = sym (append-nil before);
  no_feed = refl;
  consumed = Consumes-kept old old kept [] (Consumes-nil old) keeps.0;
  at_end = λ _. (refl, at old end);
}
  where
    at : (old : Option (List ℕ)) → IfSome old (λ xs. length shown ≡ 0 → xs ≡ []) → IsAllOf old []
    at None end = tt
    at (Some xs) end = end (eqb-true (length shown) 0 none)

-- nothing was read
pub part_none : {E : Type 0} (old kept : Option (List ℕ)) (limit : Option ℕ) (r : Result (Bor (List ℕ)) E) (before : List ℕ) → FillKeeps old kept limit r → IsPart old kept before before None
part_none old kept limit r before keeps = record {
  part = [];
  appended = sym (append-nil before);
  no_feed = refl;
  consumed = Consumes-kept old old kept [] (Consumes-nil old) keeps.0;
  at_end = λ so. absurd (by_source false so);
}

-- what was read of a line, and then a part of it
module _ (first old new : Option (List ℕ)) (before after : List ℕ) (ended : Option Bool) (none : has_line_feed before ≡ false) (read : Consumes first old before) (next : IsPart old new before after ended) where
  pub no_feed_more : has_line_feed after ≡ false
  no_feed_more = ap has_line_feed next.appended ∙ joined before next.part none next.no_feed

  read_more : Consumes first new (after ++ feed_read ended)
  read_more =
      subst (Consumes first new) (sym (append_assoc before next.part (feed_read ended)) ∙ ap (λ l. l ++ feed_read ended) (sym next.appended))
      (Consumes-trans first old new before (next.part ++ feed_read ended) read next.consumed)

  pub part_more : ended ≡ None → (has_line_feed after ≡ false) × Consumes first new after
  part_more is = (no_feed_more, subst (Consumes first new) (ap (λ e. after ++ feed_read e) is ∙ append-nil after) read_more)

  pub line_read : (whole : Bool) → ended ≡ Some whole → Consumes first new (after ++ feed_of whole)
  line_read whole is = subst (λ e. Consumes first new (after ++ feed_read e)) is read_more

  pub all_read : ended ≡ Some false → IsAllOf first after
  all_read is =
      let (nothing, all) = next.at_end is in
      subst (IsAllOf first) (ap (λ l. before ++ l) (sym nothing) ∙ sym next.appended) (known-then first old before [] read all)
