use Rattle.std.proofs.Common.{rules, ◌≡◌, [], true, false, Some, sym, subst}
use Rattle.std.specs.Io.KnownBytes.{Consumes}
use Rattle.ns_runs.specs.Lines.{Gives}
use Rattle.ns_replay.specs.Output.{step_lines}
use Rattle.ns_replay.specs.Private.Read.{lines_left}
use Rattle.ns_replay.proofs.ReadLemmas.{step_in, found-line, kept-part, read-block, then-nothing, then-advances, at-end, was-at-end, last-line}
use Rattle.ns_replay.proofs.reading.LineReader.read_line.Goals as goal

pub reading-preserved : goal.reading-preserved
reading-preserved g c =
    let o = g.S.Source.left c.reading.source in
    let p = g.S.Source.left c.read.new.source in
    let not_found : c.in_ok-take_line.field-0 ≡ false = search rules in
    let going : c.reading.self.ended ≡ false = search rules in
    let (begun, block, bounded) = c.in_ok-take_line.ensures.part not_found in
    let blocks : Gives (lines_left c.reading.self o) (lines_left c.read.new.self p) [] =
    read-block c.reading.self c.read.new.self o p c.reading.invariant.empty going c.in_ok-read.ensures.begun c.in_ok-read.ensures.ended c.in_ok-read.ensures.bytes.0 in
    record {
      sound = c.in_ok-read.ensures.failed;
      empty = block;
      bounded = bounded;
      same = then-nothing _ _ _ (then-nothing _ _ _ c.reading.invariant.same blocks) (kept-part c.read.new.self c.take_line.new.self p begun block c.in_ok-take_line.ensures.ended);
    }

pub returns-then-self-clause-lines : goal.returns-then-self-clause-lines
returns-then-self-clause-lines g c =
    let o = g.S.Source.left c.reading.source in
    let ended : c.reading.self.ended ≡ true = search rules in
    let all : Gives (lines_left c.args.self.now (g.S.Source.left c.args.source.now)) (Some (step_lines c.reading.self.begun)) [] =
    then-nothing _ _ _ c.reading.invariant.same (was-at-end c.reading.self o c.reading.invariant.empty ended) in
    then-advances _ _ _ c.end.result (step_in c.end.new.self.here) all
    (last-line c.reading.self.begun c.end.new.self o c.end.result c.end.ensures.last c.end.ensures.none c.end.ensures.rest.0 c.end.ensures.rest.1 c.end.ensures.rest.2)

pub returns-then-branch-clause-lines : goal.returns-then-branch-clause-lines
returns-then-branch-clause-lines g c =
    let o = g.S.Source.left c.reading.source in
    let p = g.S.Source.left c.read.new.source in
    let is_end : c.in_ok-read.field-0 ≡ true = search rules in
    let going : c.reading.self.ended ≡ false = search rules in
    let (consumed, ends, some) = c.in_ok-read.ensures.bytes in
    let (p_end, none) = ends is_end in
    let left : Gives (lines_left c.reading.self o) (Some (step_lines c.read.new.self.begun)) [] =
    subst (λ b. Gives (lines_left c.reading.self o) (Some (step_lines b)) []) (sym c.in_ok-read.ensures.begun)
    (at-end c.reading.self o p c.reading.invariant.empty going (subst (λ b. Consumes o p b) none consumed) p_end) in
    let all : Gives (lines_left c.args.self.now (g.S.Source.left c.args.source.now)) (Some (step_lines c.read.new.self.begun)) [] = then-nothing _ _ _ c.reading.invariant.same left in
    let end = c.end-then-branch in
    then-advances _ _ _ end.result (step_in end.new.self.here) all
    (last-line c.read.new.self.begun end.new.self p end.result end.ensures.last end.ensures.none end.ensures.rest.0 end.ensures.rest.1 end.ensures.rest.2)

pub returns-then-branch-2-clause-lines : goal.returns-then-branch-2-clause-lines
returns-then-branch-2-clause-lines g c =
    let o = g.S.Source.left c.reading.source in
    let p = g.S.Source.left c.read.new.source in
    let found : c.in_ok-take_line.field-0 ≡ true = search rules in
    let going : c.reading.self.ended ≡ false = search rules in
    let (split, unended, no_line) = c.in_ok-take_line.ensures.line found in
    let blocks : Gives (lines_left c.reading.self o) (lines_left c.read.new.self p) [] =
    read-block c.reading.self c.read.new.self o p c.reading.invariant.empty going c.in_ok-read.ensures.begun c.in_ok-read.ensures.ended c.in_ok-read.ensures.bytes.0 in
    then-advances _ _ _ true (step_in c.take_line.new.self.here) (then-nothing _ _ _ c.reading.invariant.same blocks)
    (found-line c.read.new.self c.take_line.new.self p split unended no_line c.in_ok-take_line.ensures.ended)
