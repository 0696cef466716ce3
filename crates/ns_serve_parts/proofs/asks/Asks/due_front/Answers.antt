use Rattle.std.proofs.Common.{◌≡◌, ℕ, suc, ◌+◌, ◌<◌, ◌≤◌, cond, nat_le, List, length, get_or, drop, sym, ap, ◌∙◌, arith}
use Rattle.std.proofs.lemmas.Bool.Decides.{nat_tests}
use Rattle.std.proofs.lemmas.List.{at_drop_more, at_drop_all}
use Rattle.ns_outside.specs.declared.job.AskJob.{AskJob}
use Rattle.ns_serve_parts.specs.Asks.{due_front}
use Rattle.ns_serve_parts.proofs.asks.Asks.due_front.Goals as goal

due_here : (now : ℕ) (jobs : List AskJob) (i : ℕ) (job : AskJob) → i < length jobs → job ≡ get_or jobs i job → due_front now (drop i jobs) ≡ cond (nat_le job.due now) (suc (due_front now (drop (i + 1) jobs))) 0
due_here now jobs i job h e =
    at_drop_more (due_front now) jobs i job h ∙ ap (λ (j : AskJob). cond (nat_le j.due now) (suc (due_front now (drop (i + 1) jobs))) 0) (sym e)

due_more : (now : ℕ) (jobs : List AskJob) (i : ℕ) (job : AskJob) → i < length jobs → job ≡ get_or jobs i job → job.due ≤ now → due_front now (drop i jobs) ≡ suc (due_front now (drop (i + 1) jobs))
due_more now jobs i job h e l = let t = due_here now jobs i job h e in grind (arith, nat_tests)

due_no_more : (now : ℕ) (jobs : List AskJob) (i : ℕ) (job : AskJob) → i < length jobs → job ≡ get_or jobs i job → now < job.due → due_front now (drop i jobs) ≡ 0
due_no_more now jobs i job h e l = let t = due_here now jobs i job h e in grind (arith, nat_tests)

pub loop-due-smaller : goal.loop-due-smaller
loop-due-smaller c =
    let within : c.loop-due.due < length c.args.self.now.jobs.items = omega (arith, c.args.self.now.jobs.ok.0) in
    omega arith

pub loop-due-preserved : goal.loop-due-preserved
loop-due-preserved c =
    let jobs = c.args.self.now.jobs.items in
    let within : c.loop-due.due < length jobs = omega (arith, c.args.self.now.jobs.ok.0) in
    let next = due_more c.args.now jobs c.loop-due.due c.index.result.now within c.index.ensures c.if-index-now.true in
    (omega arith, omega (arith, next, c.loop-due.invariant.1))

pub returns-else-index-now : goal.returns-else-index-now
returns-else-index-now c =
    let jobs = c.args.self.now.jobs.items in
    let within : c.loop-due.due < length jobs = omega (arith, c.args.self.now.jobs.ok.0) in
    let next = due_no_more c.args.now jobs c.loop-due.due c.index.result.now within c.index.ensures c.if-index-now.false in
    omega (arith, next, c.loop-due.invariant.1)

pub returns-after-loop-due : goal.returns-after-loop-due
returns-after-loop-due c =
    let jobs = c.args.self.now.jobs.items in
    let none = at_drop_all (due_front c.args.now) jobs c.loop-due.due (omega (arith, c.args.self.now.jobs.ok.0)) in
    omega (arith, none, c.loop-due.invariant.1)
