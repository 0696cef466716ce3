use Rattle.std.proofs.Common.{refl}
use Rattle.std.proofs.lemmas.Result.{IfOk-from_err}
use Rattle.ns_shard.specs.State.{answer_in}
use Rattle.ns_shard.proofs.Standing.{on_err, never, answer-fields}
use Rattle.ns_shard.proofs.shard.Shard.apply.Goals as goal

pub returns-in_err-apply_into : goal.returns-in_err-apply_into
returns-in_err-apply_into c =
    let r = c.from_residual.result in
    let failed = c.from_residual.ensures.0 in
    let told = c.in_err-apply_into.ensures in
    record {
      entry = IfOk-from_err r _ failed;
      answer = IfOk-from_err r _ failed;
      err = on_err r _ told.err.0;
      «open» = λ opened. never (told.open opened);
      state = told.state;
    }

pub returns : goal.returns
returns c =
    let told = c.in_ok-apply_into.ensures in
    record {
      entry = told.entry;
      answer = answer-fields c.apply_into.new.reply c.apply_into.new.uplink c.apply_into.new.downlink (answer_in c.args.self.now c.args.call) told.reply told.uplink told.downlink;
      err = tt;
      «open» = λ opened. refl;
      state = told.state;
    }
