use Rattle.std.proofs.Common.{rules}
use Rattle.ns_types.proofs.ByteLemmas.{AreBytes-slice}
use Rattle.ns_forwarder.proofs.uplink.write.Goals as goal

pub returns : goal.returns
returns c = (search rules, AreBytes-slice c.args.frame.now (λ i. search rules))
