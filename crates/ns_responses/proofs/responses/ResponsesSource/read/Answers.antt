use Rattle.std.proofs.Common.{◌<◌, [], ap, refl, ◌∙◌, take, length, arith}
use Rattle.std.proofs.lemmas.List.{length-take}
use Rattle.ns_responses.specs.Held.{HeldBytes}
use Rattle.ns_responses.specs.Reading.{GivesBy, given_of}
use Rattle.ns_responses.proofs.PlainLemmas.{consumed, GivesBy-trans}
use Rattle.ns_responses.proofs.StepLemmas.{given_by, gives_same, gives_ready, gives_released}
use Rattle.ns_responses.proofs.responses.ResponsesSource.read.Goals.{then-not-is_ready+in-Unchanged-2, else-not-is_ready}
use Rattle.ns_responses.proofs.responses.ResponsesSource.read.Goals as goal

pub returns-clause-gives : goal.returns-clause-gives
returns-clause-gives g c =
    let old = c.args.self.now in
    let now = c.settle.new.self in
    let next = c.if-not-is_ready.self in
    let left = g.S.Source.left in
    let front = take c.give.result c.give.new.buf in
    let released : GivesBy (left now.stream) (left next.stream) (given_of now) (given_of next) [] = elim c.if-not-is_ready.branch [
      | then-not-is_ready+in-Unchanged-2 w ↦ rw w.self-is (gives_released (left now.stream) now.part now.held w.release.new.self (length w.unread-unread.result.now) w.in-Unchanged-2.is (c.is_ready.ensures.unready w.if-not-is_ready.true) w.release.ensures)
      | else-not-is_ready w ↦ rw w.self-is (gives_same (left now.stream) (given_of now) (given_of now) [] (λ more. refl))
    ] in
    let given : GivesBy (left next.stream) (left next.stream) (given_of next) (given_by next.part c.give.new.self) front =
    gives_ready (left next.stream) next.part next.held c.give.new.self c.give.result front c.give.ensures.rest c.give.ensures.given in
    let both = GivesBy-trans (left now.stream) (left next.stream) (left next.stream) (given_of now) (given_of next) (given_by next.part c.give.new.self) [] front released given in
    GivesBy-trans (left old.stream) (left now.stream) (left next.stream) (given_of old) (given_of now) (given_by next.part c.give.new.self) [] front c.in_ok-settle.ensures.gives both

pub returns-clause-bytes : goal.returns-clause-bytes
returns-clause-bytes g c =
    let old = c.args.self.now in
    let next = c.if-not-is_ready.self in
    let left = g.S.Source.left in
    let front = take c.give.result c.give.new.buf in
    let ready : 0 < length next.held.ready = elim c.if-not-is_ready.branch [
      | then-not-is_ready+in-Unchanged-2 w ↦ rw w.self-is (
          let unread = w.unread-unread.result.now in
          let count = ap (λ (h : HeldBytes). length h.ready) w.release.ensures ∙ length-take (length unread) c.settle.new.self.held.unread in
          omega (arith, count, ap length w.unread-unread.ensures.value, w.if-unread-eq0.false))
      | else-not-is_ready w ↦ rw w.self-is (c.is_ready.ensures.ready w.if-not-is_ready.false)
    ] in (
      consumed (left old.stream) (left next.stream) (given_of old) (given_by next.part c.give.new.self) front (returns-clause-gives g c),
      λ none room. absurd (omega (arith, none, c.give.ensures.count, ready, c.requires.room)),
    )
