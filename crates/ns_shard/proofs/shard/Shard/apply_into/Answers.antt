use Rattle.std.proofs.Common.{refl, ◌∙◌}
use Rattle.std.proofs.lemmas.Result.{IfOk-from_err}
use Rattle.ns_shard.proofs.Standing.{is-state, on_err, never}
use Rattle.ns_shard.proofs.shard.Shard.apply_into.Goals as goal

pub returns-in_err-apply_lent : goal.returns-in_err-apply_lent
returns-in_err-apply_lent c =
    let r = c.from_residual.result in
    let failed = c.from_residual.ensures.0 in
    let told = c.in_err-apply_lent.ensures in
    record {
      entry = IfOk-from_err r _ failed;
      reply = IfOk-from_err r _ failed;
      uplink = IfOk-from_err r _ failed;
      downlink = IfOk-from_err r _ failed;
      err = on_err r _ (told.err.0, told.err.1, refl, told.err.3);
      «open» = λ opened. never (told.open opened);
      state = told.state;
    }

pub returns : goal.returns
returns c =
    let told = c.in_ok-apply_lent.ensures in
    record {
      entry = c.reuse.ensures.state ∙ (c.self.view_is ∙ told.entry);
      reply = told.reply;
      uplink = c.put_uplink.ensures ∙ told.uplink;
      downlink = told.downlink;
      err = tt;
      «open» = λ opened. refl;
      state = is-state c.reuse.new.self c.reuse.ensures.agree;
    }
