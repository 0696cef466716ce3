use Rattle.std.proofs.Common.{◌≡◌, ℕ, ◌+◌, ◌≤◌, nat_le, length, List, [], ◌∷◌, ◌++◌, Option, sym, ap, ◌∙◌, subst, arith}
use Rattle.std.specs.Io.KnownBytes.{Consumes}
use Rattle.ns_lines.specs.Text.{has_line_feed}
use Rattle.ns_resume.specs.declared.fault.RecordFault.{RecordFault}
use Rattle.ns_shard.specs.State.{State}
use Rattle.ns_resume.specs.Resumed.{AreOpenIn, NamesLineFrom}
use Rattle.ns_calls.specs.declared.call.Entry.{Entry}
use Rattle.ns_roster.specs.Network.{Network}
use Rattle.ns_runs.specs.KeptSteps.{AreKeptFrom}
use Rattle.ns_resume.specs.Private.Lines.{feed_of}
use Rattle.ns_runs.proofs.KeptSteps.{in_place_from}
use Rattle.ns_resume.proofs.Runs.{up-to-none, up-to-more, up-to-end, steps-so-far}
use Rattle.ns_resume.proofs.OpenIn.{open-in}
use Rattle.ns_resume.proofs.Faults.{from_err, names-line}
use Rattle.ns_resume.proofs.run.run_lines.Goals as goal

pub lines-init : goal.lines-init
lines-init g c = λ net starts are. up-to-none net starts _ _ (g.S.Read.remaining c.args.steps.now) (g.U.Read.remaining c.args.ups.now) _ are c.new.ensures.missing c.new.ensures.torn

pub run_line-requires-clause-sixteen : goal.run_line-requires-clause-sixteen
run_line-requires-clause-sixteen g c =
    let (net, starts, are) = c.requires in
    let run = c.lines.invariant net starts are in
    run.has_run.shards.sixteen

pub run_line-requires-clause-in_place : goal.run_line-requires-clause-in_place
run_line-requires-clause-in_place g c =
    let (net, starts, are) = c.requires in
    let run = c.lines.invariant net starts are in
    in_place_from net starts run.steps c.lines.running.shards.items run.has_run.shards

pub returns-then-not-branch-clause-resumed : goal.returns-then-not-branch-clause-resumed
returns-then-not-branch-clause-resumed g c = λ net starts are.
    let first : ℕ = c.args.first in
    let before : ℕ = c.args.before in
    let started : first ≤ c.lines.number = c.lines.auto.number in
    let enough : before + first ≤ c.lines.number = omega (arith, started, c.if-not-is_new.false) in
    up-to-end net starts first before c.lines.number (g.S.Read.remaining c.args.steps.now) (g.S.Read.remaining c.lines.steps) (g.U.Read.remaining c.args.ups.now) (g.U.Read.remaining c.lines.ups)
    c.lines.running c.read_line.new.line.items c.in_ok-end.field-0 (c.lines.invariant net starts are) enough c.in_ok-read_line.ensures.feed (c.in_ok-read_line.ensures.ended c.if-not-branch.true) c.in_ok-finish.ensures.ended
    c.in_ok-end.ensures.shards (let lines = c.in_ok-end.ensures.lines in omega (arith, lines, started)) (c.in_ok-end.ensures.torn ∙ omega arith) (c.in_ok-end.ensures.missing ∙ c.finish.ensures.missing) (c.in_ok-end.ensures.up_torn ∙ c.finish.ensures.torn)

pub returns-then-not-branch-clause-open : goal.returns-then-not-branch-clause-open
returns-then-not-branch-clause-open g c = λ net starts valid histories are.
    let run = c.lines.invariant net starts are in
    subst (λ (ss : List State). AreOpenIn ss c.in_ok-end.field-0.windows.items c.in_ok-end.field-0.tickets.items) (sym c.in_ok-end.ensures.shards)
    (open-in net starts run.steps c.lines.running.shards.items valid histories run.has_run.shards
    c.in_ok-end.field-0.windows.items c.in_ok-end.field-0.tickets.items c.in_ok-end.ensures.windows c.in_ok-end.ensures.tickets)

pub returns-in_err-run_line-clause-fault : goal.returns-in_err-run_line-clause-fault
returns-in_err-run_line-clause-fault g c =
    let first : ℕ = c.args.first in
    let known : Option (List ℕ) = g.S.Read.remaining c.args.steps.now in
    let now : Option (List ℕ) = g.S.Read.remaining c.lines.steps in
    let next : Option (List ℕ) = g.S.Read.remaining c.read_line.new.source in
    let e : RecordFault = c.in_err-run_line.field-0.0 in
    let read : Consumes now next (c.read_line.new.line.items ++ 10 ∷ []) = subst (λ w. Consumes now next (c.read_line.new.line.items ++ feed_of w)) c.if-not-branch.false c.in_ok-read_line.ensures.bytes in
    from_err c.from_residual-in_err-run_line.result
    (λ f. (net : Network) (starts : ℕ → List Entry) → AreKeptFrom net starts [] c.args.shards.items → NamesLineFrom net starts first known f) e
    (λ net starts are.
    names-line net starts first c.args.before c.lines.number known now next (g.U.Read.remaining c.args.ups.now) (g.U.Read.remaining c.lines.ups)
    c.lines.running c.as_slice.result.now e (c.lines.invariant net starts are) (subst (λ l. Consumes now next (l ++ 10 ∷ [])) (sym c.as_slice.ensures.value) read) c.in_err-run_line.ensures.fault)
    c.from_residual-in_err-run_line.ensures.1

pub lines-preserved : goal.lines-preserved
lines-preserved g c = λ net starts are.
    let first : ℕ = c.args.first in
    let before : ℕ = c.args.before in
    let now : Option (List ℕ) = g.S.Read.remaining c.lines.steps in
    let next : Option (List ℕ) = g.S.Read.remaining c.read_line.new.source in
    let run = c.lines.invariant net starts are in
    let long : length run.steps + first ≡ c.lines.number =
    steps-so-far net starts first before c.lines.number (g.S.Read.remaining c.args.steps.now) now (g.U.Read.remaining c.args.ups.now) (g.U.Read.remaining c.lines.ups) c.lines.running run in
    let read : Consumes now next (c.read_line.new.line.items ++ 10 ∷ []) = subst (λ w. Consumes now next (c.read_line.new.line.items ++ feed_of w)) c.if-not-branch.false c.in_ok-read_line.ensures.bytes in
    up-to-more net starts first before c.lines.number (g.S.Read.remaining c.args.steps.now) now next (g.U.Read.remaining c.args.ups.now) (g.U.Read.remaining c.lines.ups) (g.U.Read.remaining c.run_line.new.ups)
    c.lines.running c.run_line.new.self c.as_slice.result.now run (subst (λ l. Consumes now next (l ++ 10 ∷ [])) (sym c.as_slice.ensures.value) read)
    (ap has_line_feed c.as_slice.ensures.value ∙ c.in_ok-read_line.ensures.feed)
    (c.in_ok-run_line.ensures.run net starts before run.steps run.read run.has_run (ap (nat_le before) (omega (arith, long))))
