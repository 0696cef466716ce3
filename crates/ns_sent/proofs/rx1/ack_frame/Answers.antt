use Rattle.std.proofs.Common.{ap, ◌∙◌}
use Rattle.ns_creator.specs.declared.keys.Keys.{Keys}
use Rattle.ns_creator.specs.DataFrame.{data_frame}
use Rattle.ns_sent.proofs.rx1.ack_frame.Goals as goal

pub returns : goal.returns
returns c =
    let keys : Keys = record { nwk = c.args.nwk.now; app = c.args.nwk.now; root = c.args.nwk.now } in
    c.of.ensures ∙ (c.in-Ok.ensures.frame ∙ (ap (data_frame keys) c.acknowledgement.ensures.is ∙ c.acknowledgement_law.ensures keys c.args.addr.0 c.args.n))
