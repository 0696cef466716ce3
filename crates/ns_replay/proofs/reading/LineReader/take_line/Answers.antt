use Rattle.std.proofs.Common.{rules, ◌≡◌, ◌<◌, ◌≤◌, ◌+◌, ◌++◌, ◌∷◌, [], false, length, take, None, Some, eqb, sym, ap, ap₂, ◌∙◌, subst, arith, append_assoc}
use Rattle.std.specs.Prelude.{position}
use Rattle.std.specs.List.{slice_range}
use Rattle.std.proofs.lemmas.List.{nil_from_length}
use Rattle.std.proofs.lemmas.List.Elements.{All-append}
use Rattle.ns_steps.proofs.LineLemmas.{unended_before, unended_all}
use Rattle.ns_replay.specs.Private.Read.{ReadText, Unended}
use Rattle.ns_replay.proofs.ReadLemmas.{end-within, take-range, split-range, unended-range}
use Rattle.ns_replay.proofs.reading.LineReader.take_line.Goals as goal

pub invariant_of-self-in_default : goal.invariant_of-self-in_default
invariant_of-self-in_default c =
    let (room, order, filled, starts, ends, unended) = c.self.invariant in
    let rest = slice_range c.self.inside.block.items c.self.inside.next c.self.inside.filled in
    let none : position (λ b. eqb b 10) rest ≡ None = search rules in
    let added : c.extend_from_slice.new.self.items ≡ c.self.inside.line.items ++ rest = search rules in
    let same : c.self.inside.filled ≤ c.self.inside.filled = omega arith in
    (room, same, filled, starts, ends, subst Unended (sym added) (All-append (λ b. eqb b 10 ≡ false) c.self.inside.line.items rest unended (unended_all rest none)))

pub invariant_of-self-then-not-is_empty : goal.invariant_of-self-then-not-is_empty
invariant_of-self-then-not-is_empty c =
    let (room, order, filled, starts, ends, unended) = c.self.invariant in
    let i = c.self.inside in
    let rest = slice_range i.block.items i.next i.filled in
    let at : position (λ b. eqb b 10) rest ≡ Some c.in-Some.end = search rules in
    let less : c.in-Some.end < length rest = search rules in
    let within : i.next + c.in-Some.end < i.filled = end-within i.block.items i.next i.filled c.in-Some.end order filled less in
    let added : c.extend_from_slice-then-not-is_empty.new.self.items ≡ i.line.items ++ take c.in-Some.end rest = search rules in
    let next : i.next + c.in-Some.end + 1 ≤ i.filled = omega (arith, within) in
    (room, next, filled, starts, ends, subst Unended (sym added) (All-append (λ b. eqb b 10 ≡ false) i.line.items (take c.in-Some.end rest) unended (unended_before rest c.in-Some.end at)))

pub returns-then-not-is_empty-clause-line : goal.returns-then-not-is_empty-clause-line
returns-then-not-is_empty-clause-line c is =
    let (room, order, filled, starts, ends, unended) = c.self.invariant in
    let i = c.self.inside in
    let rest = slice_range i.block.items i.next i.filled in
    let at : position (λ b. eqb b 10) rest ≡ Some c.in-Some.end = search rules in
    let less : c.in-Some.end < length rest = search rules in
    let within : i.next + c.in-Some.end < i.filled = end-within i.block.items i.next i.filled c.in-Some.end order filled less in
    let added : c.extend_from_slice-then-not-is_empty.new.self.items ≡ i.line.items ++ take c.in-Some.end rest = search rules in
    let first = slice_range i.block.items i.next (i.next + c.in-Some.end) in
    let here : c.carry.new.self.here ≡ i.line.items ++ first =
    c.carry.ensures.here ∙ added ∙ ap (λ l. i.line.items ++ l) (take-range i.block.items i.next i.filled c.in-Some.end (omega (arith, within))) in
    let begun : c.args.self.now.begun ≡ i.line.items = sym (ap (λ (r : ReadText). r.begun) c.self.view_is) in
    let block : c.args.self.now.block ≡ rest = sym (ap (λ (r : ReadText). r.block) c.self.view_is) in (
      ap₂ (λ a b. a ++ b) begun block
          ∙ ap (λ l. i.line.items ++ l) (split-range i.block.items i.next i.filled c.in-Some.end within at)
          ∙ sym (append_assoc i.line.items first (10 ∷ slice_range i.block.items (i.next + c.in-Some.end + 1) i.filled))
          ∙ ap₂ (λ h b. h ++ 10 ∷ b) (sym here) (sym c.carry.ensures.block),
      c.carry.ensures.unended,
      c.carry.ensures.begun,
    )

pub returns-clause-line : goal.returns-clause-line
returns-clause-line c is =
    let (room, order, filled, starts, ends, unended) = c.self.invariant in
    let i = c.self.inside in
    let rest = slice_range i.block.items i.next i.filled in
    let at : position (λ b. eqb b 10) rest ≡ Some c.in-Some.end = search rules in
    let less : c.in-Some.end < length rest = search rules in
    let within : i.next + c.in-Some.end < i.filled = end-within i.block.items i.next i.filled c.in-Some.end order filled less in
    let none : i.line.items ≡ [] = nil_from_length _ (search rules) in
    let begun : c.args.self.now.begun ≡ [] = sym (ap (λ (r : ReadText). r.begun) c.self.view_is) ∙ none in
    let block : c.args.self.now.block ≡ rest = sym (ap (λ (r : ReadText). r.block) c.self.view_is) in (
      ap₂ (λ a b. a ++ b) begun block ∙ split-range i.block.items i.next i.filled c.in-Some.end within at,
      unended-range i.block.items i.next i.filled c.in-Some.end within at,
      none,
    )
