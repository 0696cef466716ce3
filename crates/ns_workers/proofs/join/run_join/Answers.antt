use Rattle.std.proofs.Common.{rules, ◌≡◌, refl, sym, ap, ◌∙◌, zero-le}
use Rattle.ns_workers.proofs.Closings.{one_more_fits}
use Rattle.ns_workers.proofs.Answerings.{answered_first, answered_next, answers_end, answers_full, answers_broken, answers_unchanged}
use Rattle.ns_workers.proofs.join.run_join.Goals as goal

pub returns-then-is_err-clause-answers : goal.returns-then-is_err-clause-answers
returns-then-is_err-clause-answers g c =
    let unchanged : ((g.S.Calls.made c.answer_job-answered.new.pass) ≡ (g.S.Calls.made c.loop-joined.pass)) × (c.answer_job-answered.new.down ≡ c.loop-joined.down) = search rules in
    answers_unchanged g.S.Calls.roster (g.M.Monitor.has_heard c.args.shared.now.monitor.now) _ (g.J.JobSource.given c.args.jobs.now) (g.J.JobSource.given c.loop-joined.jobs)
    (g.J.JobSource.given c.take.new.self) _ (g.S.Calls.made c.loop-joined.pass) (g.S.Calls.made c.answer_job-answered.new.pass) (g.D.Downlinks.taken c.loop-joined.down) (g.D.Downlinks.taken c.answer_job-answered.new.down)
    c.loop-joined.joined.answered c.in-Job.job c.loop-joined.invariant.2 c.in-Job.ensures.given unchanged.0 (ap g.D.Downlinks.taken unchanged.1)

pub loop-joined-init : goal.loop-joined-init
loop-joined-init g c = (zero-le, refl, answered_first _ _ _ _ _, refl)

pub loop-joined-preserved : goal.loop-joined-preserved
loop-joined-preserved g c =
    let so = c.loop-joined.invariant in
    let answered = c.answer_job-answered in (
      one_more_fits _ _ _ c.loop-joined-test.true refl,
      so.1,
      answered_next _ _ _ _ _ _ _ _ _ _ c.in-Job.job answered.result (sym c.is_err.ensures.value ∙ c.if-is_err.false) so.2 c.in-Job.ensures.given answered.ensures.reply answered.ensures.does,
      c.in-Job.ensures.same ∙ so.3,
    )

pub returns-in-End-clause-answers : goal.returns-in-End-clause-answers
returns-in-End-clause-answers g c = answers_end _ _ _ _ _ _ _ _ _ c.loop-joined.invariant.1 c.loop-joined.invariant.2 c.in-End.ensures.given

pub returns-in-Failed-clause-answers : goal.returns-in-Failed-clause-answers
returns-in-Failed-clause-answers g c = answers_broken _ _ _ _ _ _ _ _ _ c.loop-joined.invariant.2 c.in-Failed.ensures.given

pub returns-clause-answers : goal.returns-clause-answers
returns-clause-answers g c =
    let so = c.loop-joined.invariant in
    answers_full _ _ _ _ _ _ _ _ so.1 so.2 so.0 c.loop-joined-test.false
