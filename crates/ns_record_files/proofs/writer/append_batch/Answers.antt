use Rattle.std.proofs.Common.{refl}
use Rattle.ns_record_files.specs.Record.{Batch}
use Rattle.ns_record_files.proofs.Batches.{torn_at_steps, all_steps_there, torn_at_ups, all_there}
use Rattle.ns_record_files.proofs.Fronts.{front_all}
use Rattle.ns_record_files.proofs.writer.append_batch.Goals as goal

pub returns-in_err-append_steps-clause-any : goal.returns-in_err-append_steps-clause-any
returns-in_err-append_steps-clause-any g c =
    let b : Batch = record { steps = c.args.steps.now; ups = c.args.ups.now } in
    let torn = c.in_err-append_steps.ensures.torn in
    λ batches has. torn_at_steps batches b _ _ torn.0 has torn.1 torn.2

pub returns-in_err-sync_steps-clause-any : goal.returns-in_err-sync_steps-clause-any
returns-in_err-sync_steps-clause-any g c =
    let b : Batch = record { steps = c.args.steps.now; ups = c.args.ups.now } in
    λ batches has. all_steps_there batches b _ _ _ has c.in_ok-append_steps.ensures.ok c.in_err-sync_steps.ensures.same

pub returns-in_err-append_ups-clause-any : goal.returns-in_err-append_ups-clause-any
returns-in_err-append_ups-clause-any g c =
    let b : Batch = record { steps = c.args.steps.now; ups = c.args.ups.now } in
    let torn = c.in_err-append_ups.ensures.torn in
    λ batches has. torn_at_ups batches b _ _ _ _ torn.0 has torn.1 c.in_ok-append_steps.ensures.ok c.in_ok-sync_steps.ensures.ok torn.2

pub returns-clause-ok : goal.returns-clause-ok
returns-clause-ok g c =
    let b : Batch = record { steps = c.args.steps.now; ups = c.args.ups.now } in
    λ batches has. all_there batches b _ _ _ _ has c.in_ok-append_steps.ensures.ok c.in_ok-sync_steps.ensures.ok c.in_ok-append_ups.ensures.ok

pub returns-clause-any : goal.returns-clause-any
returns-clause-any g c =
    let b : Batch = record { steps = c.args.steps.now; ups = c.args.ups.now } in
    λ batches has. torn_at_ups batches b _ _ _ _ b.ups has (front_all b.ups b.ups refl) c.in_ok-append_steps.ensures.ok c.in_ok-sync_steps.ensures.ok c.in_ok-append_ups.ensures.ok
