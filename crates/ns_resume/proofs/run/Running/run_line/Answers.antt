use Rattle.std.proofs.Common.{◌≡◌, ℕ, List, [], ◌++◌, length, subst, sym, ap, ◌∙◌}
use Rattle.std.proofs.lemmas.Bool.{leb-true, leb-false}
use Rattle.std.proofs.lemmas.Result.{on_ok_weaker}
use Rattle.std.specs.Option.{option_map_or}
use Rattle.ns_roster.specs.Network.{Network}
use Rattle.ns_calls.specs.declared.answer.Uplink.{Uplink}
use Rattle.ns_calls.specs.declared.call.Entry.{Entry}
use Rattle.ns_lines.specs.Text.{up_text}
use Rattle.ns_acts.specs.declared.step.Step.{Step}
use Rattle.ns_steps.specs.StepLines.{ended}
use Rattle.ns_resume.specs.declared.ups.Ups.{Ups}
use Rattle.ns_resume.specs.Resumed.{AreUps}
use Rattle.ns_resume.specs.Private.Ups.{GoOn}
use Rattle.ns_resume.proofs.UpLines.{goes-on-none}
use Rattle.ns_resume.proofs.Runs.{runs-on, runs-on-first}
use Rattle.ns_resume.specs.declared.fault.RecordFault.{RecordFault}
use Rattle.ns_resume.specs.Private.Running.{HasRun}
use Rattle.ns_resume.specs.Private.Faults.{RefusesLine}
use Rattle.ns_resume.proofs.Faults.{from_err, refused-answer}
use Rattle.ns_resume.proofs.run.Running.run_line.Goals as goal

pub returns-in_err-answer-clause-fault : goal.returns-in_err-answer-clause-fault
returns-in_err-answer-clause-fault g c =
    let e : RecordFault = c.in_err-answer.field-0.0 in
    from_err c.from_residual-in_err-answer.result
    (λ f. (net : Network) (starts : ℕ → List Entry) (before : ℕ) (steps : List Step) (read : List ℕ) → HasRun net starts before steps read c.args.self.now → RefusesLine net starts steps c.args.line.now c.args.number f) e
    (λ net starts before steps read run. refused-answer net starts steps c.args.line.now c.args.number c.args.self.now.shards.items c.in_ok-call.call.now e run.shards c.in_ok-call.ensures.call c.in_err-answer.ensures.fault)
    c.from_residual-in_err-answer.ensures.1

pub returns-then-not-is_new-clause-run : goal.returns-then-not-is_new-clause-run
returns-then-not-is_new-clause-run g c = λ net starts before steps read run is.
    runs-on-first net starts before steps c.args.line.now read c.args.self.now c.answer.new.self c.in_ok-call.call.now c.in_ok-answer.ensures.answered.0 run c.in_ok-call.ensures.call c.in_ok-answer.ensures.answered.1
    (g.U.Read.remaining c.args.ups.now) (leb-false before (length steps) (sym is ∙ c.if-not-is_new.true)) c.answer.ensures.ups

pub returns-in-Some-clause-run : goal.returns-in-Some-clause-run
returns-in-Some-clause-run g c =
    let text : c.as_bytes.result.now ≡ up_text c.in-Some.uplink = c.as_bytes.ensures.value ∙ (c.as_str.ensures.value ∙ (c.put_lent_uplink.ensures.bytes ∙ (ap (λ (b : List ℕ). b ++ up_text c.lend.result) c.clear.ensures ∙ ap up_text c.lend.ensures))) in
    let out : option_map_or (λ (u : Uplink). ended (up_text u)) c.in_ok-answer.ensures.answered.0.uplink [] ≡ ended c.as_bytes.result.now =
    ap (λ o. option_map_or (λ (u : Uplink). ended (up_text u)) o []) (sym c.in_ok-answer.ensures.answered.2 ∙ c.in-Some.is) ∙ ap ended (sym text) in
    on_ok_weaker c.implied.result
    (λ goes net starts before steps read run is.
    runs-on net starts before steps c.args.line.now read c.args.self.now
    (record (c.answer.new.self) { ups = c.implied.new.self; up = c.put_lent_uplink.new.line }) c.in_ok-call.call.now c.in_ok-answer.ensures.answered.0 run c.in_ok-call.ensures.call c.in_ok-answer.ensures.answered.1
    (g.U.Read.remaining c.args.ups.now) (g.U.Read.remaining c.implied.new.source) (leb-true before (length steps) (sym is ∙ c.if-not-is_new.false))
    (λ there ups are.
    subst (λ l. GoOn (g.U.Read.remaining c.args.ups.now) (g.U.Read.remaining c.implied.new.source) there (ups ++ l) c.implied.new.self) (sym out)
    (goes there ups (subst (λ (u : Ups). AreUps there ups u.missing.items u.torn) (sym c.answer.ensures.ups) are))))
    c.implied.ensures.ups

pub returns-in-None-clause-run : goal.returns-in-None-clause-run
returns-in-None-clause-run g c = λ net starts before steps read run is.
    runs-on net starts before steps c.args.line.now read c.args.self.now c.answer.new.self c.in_ok-call.call.now c.in_ok-answer.ensures.answered.0 run c.in_ok-call.ensures.call c.in_ok-answer.ensures.answered.1
    (g.U.Read.remaining c.args.ups.now) (g.U.Read.remaining c.args.ups.now) (leb-true before (length steps) (sym is ∙ c.if-not-is_new.false))
    (λ there ups are.
    subst (λ o. GoOn (g.U.Read.remaining c.args.ups.now) (g.U.Read.remaining c.args.ups.now) there (ups ++ option_map_or (λ (u : Uplink). ended (up_text u)) o []) c.answer.new.self.ups) (sym (sym c.in_ok-answer.ensures.answered.2 ∙ c.in-None.is))
    (subst (GoOn (g.U.Read.remaining c.args.ups.now) (g.U.Read.remaining c.args.ups.now) there (ups ++ [])) (sym c.answer.ensures.ups)
    (goes-on-none (g.U.Read.remaining c.args.ups.now) there ups c.args.self.now.ups are)))
