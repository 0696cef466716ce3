-- Lines, and the search of an empty one.
use Rattle.std.proofs.Common.{◌≡◌, ℕ, zero, suc, ◌+◌, ◌-◌, ◌≤◌, ◌<◌, Bool, true, false, ◌==◌, cond, List, [], ◌∷◌, ◌++◌, length, get_or, take, drop, Option, None, Some, refl, sym, ap, ◌∙◌, arith, append_assoc}
use Rattle.std.specs.Option.{option_map}
use Rattle.std.proofs.lemmas.List.{drop-append-le, take-append-le, take_all, append-nil, length-append, drop_all}
use Rattle.std.proofs.Math.Seq.{take-append-add, drop-append-add}
use Rattle.std.specs.Prelude.{nat_eq}
use Rattle.std.specs.List.{starts_with}
use lib.Pointwise.{pointwise}
use Rattle.ns_responses.specs.declared.section.Search.{Search}
use Rattle.ns_responses.specs.Lines.{lines_of, onto_line, section_length, section_of}
use Rattle.ns_responses.specs.Finding.{IsSearchOf}

-- a search that has looked at all bytes found no empty line
pub search_all : (search : Search) (bytes : List ℕ) → length bytes ≤ search.at → IsSearchOf search bytes → section_length false bytes ≡ None
search_all search bytes all h =
    let none : drop search.at bytes ++ [] ≡ [] = ap (λ l. l ++ []) (drop_all search.at bytes all) in
    ap (section_length false) (sym (append-nil bytes)) ∙ h.goes_on [] ∙ ap (λ l. option_map (λ n. search.at + n) (section_length search.has_text l)) none

-- a search goes on in more bytes
pub search-append : (search : Search) (bytes piece : List ℕ) → IsSearchOf search bytes → IsSearchOf search (bytes ++ piece)
search-append search bytes piece h = record {
  within = omega (arith, h.within, length-append bytes piece);
  goes_on = λ more.
      ap (section_length false) (append_assoc bytes piece more)
      ∙ h.goes_on (piece ++ more)
      ∙ ap (λ l. option_map (λ n. search.at + n) (section_length search.has_text l))
      (sym (append_assoc (drop search.at bytes) piece more) ∙ ap (λ l. l ++ more) (sym (drop-append-le search.at bytes piece h.within)));
}

-- the first line ends with the first LF
pub first_line : (bytes : List ℕ) (n : ℕ) → n < length bytes → ((k : ℕ) → k < n → (get_or bytes k 0 == 10) ≡ false) → (get_or bytes n 0 == 10) ≡ true
    → lines_of bytes ≡ take (n + 1) bytes ∷ lines_of (drop (n + 1) bytes)
first_line [] n inside before here = absurd (omega arith)
first_line (b ∷ bytes) zero inside before here = rw here refl
first_line (b ∷ bytes) (suc n) inside before here =
    let other : (b == 10) ≡ false = before 0 (omega arith) in
    let later = first_line bytes n (omega arith) (λ k below. before (suc k) (omega arith)) here in
    let count : suc n + 1 ≡ suc (n + 1) = omega arith in
    rw other (rw count (ap (onto_line b) later))

-- the last line may have no end
pub last_line : (bytes : List ℕ) → 0 < length bytes → ((k : ℕ) → k < length bytes → (get_or bytes k 0 == 10) ≡ false) → lines_of bytes ≡ bytes ∷ []
last_line [] some none = absurd (omega arith)
last_line (b ∷ []) some none = rw (none 0 (omega arith)) refl
last_line (b ∷ c ∷ bytes) some none =
    let later = last_line (c ∷ bytes) (omega arith) (λ k below. none (suc k) (omega arith)) in
    rw (none 0 (omega arith)) (ap (onto_line b) later)

either : (test : Bool) {found : Option ℕ} → found ≡ None → cond test found None ≡ None
either true e = e
either false e = refl

-- whether a text stands at the front does not change by what follows
starts_before : (text bytes more : List ℕ) → length text ≤ length bytes → starts_with nat_eq (bytes ++ more) text ≡ starts_with nat_eq bytes text
starts_before text bytes more short = ap (pointwise nat_eq text) (take-append-le (length text) bytes more short)

-- bytes up to a limit, of which the first are there
pub room_taken : (piece more : List ℕ) (room n : ℕ) → length piece ≡ n → n ≤ room
    → (take room (piece ++ more) ≡ piece ++ take (room - n) more) × (drop room (piece ++ more) ≡ drop (room - n) more)
room_taken piece more room n sized fits =
    let sum : room ≡ length piece + (room - n) = omega arith in (
      ap (λ k. take k (piece ++ more)) sum ∙ take-append-add piece more (room - n),
      ap (λ k. drop k (piece ++ more)) sum ∙ drop-append-add piece more (room - n),
    )

pub ended_section : (text bytes : List ℕ) (n : ℕ) → length text ≤ length bytes → length bytes ≤ 4096 → starts_with nat_eq bytes text ≡ true
    → ((more : List ℕ) → section_length false (bytes ++ more) ≡ Some n) → (more : List ℕ) → section_of text (bytes ++ more) ≡ Some n
ended_section text bytes n short fits begins ends more =
    rw (starts_before text bytes more short ∙ begins) (ap (section_length false) (room_taken bytes more 4096 (length bytes) refl fits).0 ∙ ends (take (4096 - length bytes) more))

-- where the room is full
pub full_section : (text bytes : List ℕ) → 4096 ≤ length bytes → length bytes ≤ 4096 → section_length false bytes ≡ None → (more : List ℕ) → section_of text (bytes ++ more) ≡ None
full_section text bytes full fits none more =
    let no_room : 4096 - length bytes ≡ 0 = omega arith in
    let same : section_length false (take 4096 (bytes ++ more)) ≡ None =
    ap (section_length false) ((room_taken bytes more 4096 (length bytes) refl fits).0 ∙ ap (λ n. bytes ++ take n more) no_room ∙ append-nil bytes) ∙ none in
    either (starts_with nat_eq (bytes ++ more) text) same

-- no section in what there is
pub open_section : (text bytes : List ℕ) → length bytes ≤ 4096 → section_length false bytes ≡ None → section_of text bytes ≡ None
open_section text bytes fits none = either (starts_with nat_eq bytes text) (ap (section_length false) (take_all 4096 bytes fits) ∙ none)
