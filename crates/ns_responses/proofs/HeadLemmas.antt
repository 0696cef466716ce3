-- The lines of a head that frame the body.
use Rattle.std.proofs.Common.{◌≡◌, ℕ, ◌+◌, ◌-◌, ◌≤◌, Bool, true, false, cond, List, [], ◌∷◌, ◌++◌, length, take, drop, Option, None, Some, refl, sym, ap, ◌∙◌, arith, append_assoc, drop-drop}
use Rattle.std.proofs.Math.Seq.{take-add}
use Rattle.std.specs.Prelude.{is_some}
use Rattle.std.specs.List.{filter, slice_range}
use Rattle.ns_responses.proofs.HeldLemmas.{range_same}
use Rattle.ns_responses.specs.declared.head.Line.{Line}
use Rattle.ns_responses.specs.Lines.{lines_of}
use Rattle.ns_responses.specs.Head.{is_framing, framing_lines, unframed}

-- a line in front of others
framing_cons : (line bytes rest : List ℕ) (framing : Bool) → lines_of bytes ≡ line ∷ lines_of rest → is_framing line ≡ framing
    → framing_lines bytes ≡ cond framing (line ∷ framing_lines rest) (framing_lines rest)
framing_cons line bytes rest framing is e = ap (filter is_framing) is ∙ ap (λ t. cond t (line ∷ framing_lines rest) (framing_lines rest)) e

unframed_cons : (line bytes rest : List ℕ) (framing : Bool) → lines_of bytes ≡ line ∷ lines_of rest → is_framing line ≡ framing
    → unframed bytes ≡ cond framing (unframed rest) (line ++ unframed rest)
unframed_cons line bytes rest true is e = rw (is, e) refl
unframed_cons line bytes rest false is e = rw (is, e) refl

-- the lines were looked at up to a place, and one of them frames the body, or none
pub record NoneFramed (head : List ℕ) (at : ℕ) : Type 0 where
  pub within : at ≤ length head
  pub lines : framing_lines head ≡ framing_lines (drop at head)
  pub others : unframed head ≡ take at head ++ unframed (drop at head)

pub record OneFramed (head : List ℕ) (at : ℕ) (line : Line) : Type 0 where
  pub within : at ≤ length head
  pub ordered : (line.start ≤ line.end) × (line.end ≤ at)
  pub lines : framing_lines head ≡ slice_range head line.start line.end ∷ framing_lines (drop at head)
  pub others : unframed head ≡ take line.start head ++ (slice_range head line.end at ++ unframed (drop at head))

abbrev pub Framed : List ℕ → ℕ → Option Line → Type 0
Framed head at None = NoneFramed head at
Framed head at (Some line) = OneFramed head at line

-- a line that begins at a place goes on what was found
module _ (head : List ℕ) (at size : ℕ) (fits : at + size ≤ length head)
    (is : lines_of (drop at head) ≡ take size (drop at head) ∷ lines_of (drop size (drop at head))) where
  end_is : drop size (drop at head) ≡ drop (at + size) head
  end_is = drop-drop size at head

  line_is : slice_range head at (at + size) ≡ take size (drop at head)
  line_is = let e : at + size - at ≡ size = omega arith in ap (λ n. take n (drop at head)) e

  lines_on : lines_of (drop at head) ≡ slice_range head at (at + size) ∷ lines_of (drop (at + size) head)
  lines_on = is ∙ (λ i. sym line_is i ∷ lines_of (end_is i))

  take_on : take (at + size) head ≡ take at head ++ slice_range head at (at + size)
  take_on = take-add at size head ∙ ap (λ l. take at head ++ l) (sym line_is)

  abbrev line : List ℕ
  line = slice_range head at (at + size)

  pub framed_kept : (found : Option Line) → is_framing line ≡ false → Framed head at found → Framed head (at + size) found
  framed_kept None e h = record {
    within = fits;
    lines = h.lines ∙ framing_cons line (drop at head) (drop (at + size) head) false lines_on e;
    others = h.others
        ∙ ap (λ l. take at head ++ l) (unframed_cons line (drop at head) (drop (at + size) head) false lines_on e)
        ∙ sym (append_assoc (take at head) line (unframed (drop (at + size) head)))
        ∙ ap (λ l. l ++ unframed (drop (at + size) head)) (sym take_on);
  }
  framed_kept (Some found) e h =
      let count : at + size - found.end ≡ (at - found.end) + size = omega (arith, h.ordered.1) in
      let place : found.end + (at - found.end) ≡ at = omega (arith, h.ordered.1) in
      let joined : slice_range head found.end (at + size) ≡ slice_range head found.end at ++ line =
      ap (λ n. take n (drop found.end head)) count
      ∙ take-add (at - found.end) size (drop found.end head)
      ∙ ap (λ l. take (at - found.end) (drop found.end head) ++ take size l) (drop-drop (at - found.end) found.end head ∙ ap (λ n. drop n head) place)
      ∙ ap (λ l. slice_range head found.end at ++ l) (sym line_is) in
      record {
        within = fits;
        ordered = (h.ordered.0, omega (arith, h.ordered.1));
        lines = h.lines ∙ ap (λ l. slice_range head found.start found.end ∷ l) (framing_cons line (drop at head) (drop (at + size) head) false lines_on e);
        others = h.others
            ∙ ap (λ l. take found.start head ++ (slice_range head found.end at ++ l)) (unframed_cons line (drop at head) (drop (at + size) head) false lines_on e)
            ∙ ap (λ l. take found.start head ++ l) (sym (append_assoc (slice_range head found.end at) line (unframed (drop (at + size) head)))
            ∙ ap (λ l. l ++ unframed (drop (at + size) head)) (sym joined));
      }

  pub framed_first : (found : Option Line) → is_some found ≡ false → is_framing line ≡ true → Framed head at found → OneFramed head (at + size) (record { start = at; end = at + size })
  framed_first (Some found) none e h = cc
  framed_first None none e h =
      let nothing : slice_range head (at + size) (at + size) ≡ [] = range_same head (at + size) in
      record {
        within = fits;
        ordered = (omega arith, omega arith);
        lines = h.lines ∙ framing_cons line (drop at head) (drop (at + size) head) true lines_on e;
        others = h.others
            ∙ ap (λ l. take at head ++ l) (unframed_cons line (drop at head) (drop (at + size) head) true lines_on e
            ∙ ap (λ l. l ++ unframed (drop (at + size) head)) (sym nothing));
      }
