use Rattle.std.proofs.Common.{rules, ◌≡◌, true, false}
use Rattle.std.proofs.lemmas.Result.{IfOk-weaker}
use Rattle.ns_replay.proofs.ReadLemmas.{found-line, kept-part, then-advances}
use Rattle.ns_replay.proofs.reading.LineReaderStepSource.advance.Goals as goal

pub returns-then-branch-clause-lines : goal.returns-then-branch-clause-lines
returns-then-branch-clause-lines g c =
    let found : c.in_ok-take_line.field-0 ≡ true = search rules in
    let (split, unended, no_line) = c.in_ok-take_line.ensures.line found in
    found-line c.args.self.now c.take_line.new.self (g.S.Source.left c.args.source.now) split unended no_line c.in_ok-take_line.ensures.ended

pub returns-clause-lines : goal.returns-clause-lines
returns-clause-lines g c =
    let not_found : c.in_ok-take_line.field-0 ≡ false = search rules in
    let (begun, block, bounded) = c.in_ok-take_line.ensures.part not_found in
    IfOk-weaker c.read_line.result _ _ (λ more next. then-advances _ _ _ more _ (kept-part c.args.self.now c.take_line.new.self (g.S.Source.left c.args.source.now) begun block c.in_ok-take_line.ensures.ended) next) c.read_line.ensures.lines
