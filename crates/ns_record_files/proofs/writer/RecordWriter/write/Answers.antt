use Rattle.std.proofs.Common.{[], ◌∷◌, ◌++◌, ap, sym, subst}
use Rattle.ns_record_files.specs.Record.{Batch, Written, HasAll}
use Rattle.ns_record_files.proofs.Batches.{been_since}
use Rattle.ns_record_files.proofs.writer.RecordWriter.write.Goals as goal

pub invariant_of-self : goal.invariant_of-self
invariant_of-self g c =
    let b : Batch = record { steps = c.args.steps.now; ups = c.args.ups.now } in
    let sound = c.self.invariant in
    let has = sound.whole c.if-self.false in
    record {
      batches = sound.batches ++ b ∷ [];
      been = been_since sound.batches b _ _ (c.append_batch.ensures.any sound.batches has);
      whole = λ no. cc;
    }

pub invariant_of-self-2 : goal.invariant_of-self-2
invariant_of-self-2 g c =
    let b : Batch = record { steps = c.args.steps.now; ups = c.args.ups.now } in
    let sound = c.self.invariant in
    let has = sound.whole c.if-self.false in
    record {
      batches = sound.batches ++ b ∷ [];
      been = been_since sound.batches b _ _ (c.append_batch.ensures.any sound.batches has);
      whole = λ _. c.in_ok-append_batch.ensures.ok sound.batches has;
    }

pub returns-clause-ok : goal.returns-clause-ok
returns-clause-ok g c =
    λ batches has. c.in_ok-append_batch.ensures.ok batches (subst (HasAll batches) (ap (λ (w : Written). w.moments) (sym c.self.view_is)) has)
