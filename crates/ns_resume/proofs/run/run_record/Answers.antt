use Rattle.std.proofs.Common.{◌≡◌, ℕ, List, [], ◌++◌, Option, refl, subst, ◌∙◌}
use Rattle.std.proofs.KnownBytes.{Consumes-nil}
use Rattle.std.proofs.lemmas.Result.{IfOk-weaker, IfErr-weaker}
use Rattle.std.specs.Arc.{arc_value}
use Rattle.ns_roster.specs.Network.{Network}
use Rattle.ns_roster.specs.Valid.{IsRoster}
use Rattle.ns_resume.specs.declared.head.RecordHead.{RecordHead}
use Rattle.ns_resume.specs.declared.fault.RecordFault.{RecordFault}
use Rattle.ns_resume.specs.Head.{head_text}
use Rattle.ns_resume.specs.Resumed.{HasRunFrom, NamesLine, NamesLineFrom}
use Rattle.ns_resume.proofs.Lines.{known-then}
use Rattle.ns_resume.proofs.Faults.{from_err, names-early}
use Rattle.ns_resume.proofs.run.run_record.Goals as goal

pub run_lines-requires : goal.run_lines-requires
run_lines-requires g c =
    let (starts, begun, kept) = c.in_ok-head.ensures.shards in
    (arc_value c.args.roster, starts, kept)

pub returns-in_err-head-clause-fault : goal.returns-in_err-head-clause-fault
returns-in_err-head-clause-fault g c =
    let net : Network = arc_value c.args.roster in
    let known : Option (List ℕ) = g.S.Read.remaining c.args.steps.now in
    let e : RecordFault = c.in_err-head.field-0.0 in
    from_err c.from_residual.result (NamesLine net known) e (names-early net known e c.in_err-head.ensures.fault) c.from_residual.ensures.1

pub returns-clause-resumed : goal.returns-clause-resumed
returns-clause-resumed g c =
    let net : Network = arc_value c.args.roster in
    let head : RecordHead = c.in_ok-head.head in
    let (starts, begun, kept) = c.in_ok-head.ensures.shards in
    let (earlier, skipped, long) = c.in_ok-skip_ups.ensures.bytes in
    IfOk-weaker c.run_lines.result _ _
    (λ r ran.
    let (text, there, all, ups_all, run) = ran net starts kept in (
      head_text head ++ text,
      earlier ++ there,
      known-then (g.S.Read.remaining c.args.steps.now) (g.S.Read.remaining c.begin_record.new.steps) (head_text head) text c.in_ok-head.ensures.bytes all,
      known-then (g.U.Read.remaining c.args.ups.now) (g.U.Read.remaining c.skip_ups.new.ups) earlier there skipped ups_all,
      record {
        head = head;
        lines = text;
        is_text = refl;
        starts = starts;
        begun = begun;
        earlier = earlier;
        later = there;
        are_there = refl;
        earlier_bytes = long ∙ c.ups_before.ensures;
        run = subst (λ n. HasRunFrom net starts n text there r) c.lines_before.ensures run;
      },
    ))
    c.run_lines.ensures.resumed

pub returns-clause-open : goal.returns-clause-open
returns-clause-open g c =
    let net : Network = arc_value c.args.roster in
    let (starts, begun, kept) = c.in_ok-head.ensures.shards in
    let valid : IsRoster net = subst IsRoster c.deref.ensures c.net_id-net_id.ensures.valid in
    IfOk-weaker c.run_lines.result _ _ (λ r lists. lists net starts valid begun.histories kept) c.run_lines.ensures.open

pub returns-clause-fault : goal.returns-clause-fault
returns-clause-fault g c =
    let net : Network = arc_value c.args.roster in
    let rest : Option (List ℕ) = g.S.Read.remaining c.begin_record.new.steps in
    let (starts, begun, kept) = c.in_ok-head.ensures.shards in
    IfErr-weaker c.run_lines.result _ _
    (λ e names. record {
      head = c.in_ok-head.head;
      starts = starts;
      begun = begun;
      rest = rest;
      consumed = c.in_ok-head.ensures.bytes;
      names = subst (λ n. NamesLineFrom net starts n rest e) c.in-Some.ensures (names net starts kept);
    })
    c.run_lines.ensures.fault
