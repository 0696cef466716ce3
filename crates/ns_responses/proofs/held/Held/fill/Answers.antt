use Rattle.std.proofs.Common.{◌≡◌, ◌≤◌, ◌+◌, ◌-◌, ◌∙◌, arith, sym, ap, take, drop, length}
use Rattle.std.proofs.lemmas.List.{length-take, length-drop}
use Rattle.std.specs.List.{slice_range}
use Rattle.ns_responses.proofs.HeldLemmas.{length_range, IsCompact, compact, compact_already, filled_behind}
use Rattle.ns_responses.proofs.held.Held.fill.Goals.{then-self-gt0, else-self-gt0}
use Rattle.ns_responses.proofs.held.Held.fill.Goals as goal

pub returns-clause-piece : goal.returns-clause-piece
returns-clause-piece g c =
    let i = c.self.inside in
    let v = c.self.invariant in
    let j = c.if-self-gt0.self-inside in
    let ordered : (i.start ≤ i.middle) × (i.middle ≤ i.end) × (i.end ≤ length i.bytes) = (v.0, v.1, omega (arith, v.2, c.self.told)) in
    let at_front : IsCompact j.bytes j.start j.middle j.end c.args.self.now.unread = elim c.if-self-gt0.branch [
      | then-self-gt0 w ↦ rw w.self-inside-is (compact i.bytes i.start i.middle i.end c.args.self.now c.self.view_is ordered c.self.told _ w.copy_within.ensures.after)
      | else-self-gt0 w ↦ rw w.self-inside-is (compact_already i.bytes i.start i.middle i.end c.args.self.now c.self.view_is ordered c.self.told (omega (arith, w.if-self-gt0.false)))
    ] in
    let r = c.in_ok-n.ensures in
    let n = c.in_ok-n.n in
    let count : j.end ≡ length c.args.self.now.unread = let e : length (slice_range j.bytes 0 j.end) ≡ j.end = length_range j.bytes 0 j.end (omega arith) at_front.within ∙ (let z : j.end - 0 ≡ j.end = omega arith in z) in sym e ∙ ap length at_front.unread_is in
    let sized : length c.read.new.buf ≡ c.min.result + j.end - j.end = omega (arith, c.read.auto.buf, length-take (c.min.result + j.end - j.end) (drop j.end j.bytes), length-drop j.end j.bytes, at_front.sized, c.min.ensures) in (
      take n c.read.new.buf,
      filled_behind j.bytes c.read.new.buf c.args.self.now.unread j.start j.middle j.end (c.min.result + j.end - j.end) n at_front sized r.bound.0,
      r.bytes.0,
      sym r.bound.1,
      omega (arith, r.bound.0, sized, c.min.ensures),
      λ none. r.bytes.1 none (omega (arith, sized, c.min.ensures, count, c.requires.some, c.requires.room)),
    )
