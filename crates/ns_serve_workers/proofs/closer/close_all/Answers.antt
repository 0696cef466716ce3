use Rattle.std.proofs.Common.{◌≡◌, List, rules, arith, length, ap, ◌∙◌}
use Rattle.std.specs.Option.{option_map_or}
use Rattle.ns_workers.specs.declared.listed.ListedJobs.{ListedJobs}
use Rattle.ns_outside.specs.declared.job.CloseJob.{CloseJob}
use Rattle.ns_serve_workers.proofs.TakenLemmas.{takes_first, takes_all}
use Rattle.ns_serve_workers.proofs.closer.close_all.Goals as goal

pub returns-clause-closed : goal.returns-clause-closed
returns-clause-closed g c =
    takes_first _ _ c.args.jobs.items c.new-jobs.result c.run_closer_into.new.jobs c.run_closer_into.result.receipts.items c.run_closer_into.result.fault
    c.new-jobs.ensures.given (ap (λ v. v.items) c.new-jobs.ensures.all.0) c.run_closer_into.ensures.same c.run_closer_into.ensures.jobs

pub returns-clause-all : goal.returns-clause-all
returns-clause-all g c = λ fine few.
    let jobs : List CloseJob = c.args.jobs.items in
    let source : ListedJobs CloseJob = c.run_closer_into.new.jobs in
    let first = c.new-jobs.ensures in
    let same = c.run_closer_into.ensures.same in
    let are : c.new-jobs.result.jobs.items ≡ jobs = ap (λ v. v.items) first.all.0 in
    let long : length source.jobs.items ≡ length jobs = ap (λ o. option_map_or (λ (l : List CloseJob). length l) o 0) same ∙ ap length are in
    let enough : c.unwrap_or-limit.result ≡ length jobs = search rules in
    takes_all _ _ jobs c.new-jobs.result source c.run_closer_into.result.receipts.items c.run_closer_into.result.fault first.given are same
    (omega (arith, source.within, source.jobs.ok, long))
    (λ is. let at_end = source.ended is in omega (arith, at_end.0, source.jobs.ok, long))
    enough fine c.run_closer_into.ensures.jobs
