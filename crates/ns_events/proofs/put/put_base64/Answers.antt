use Rattle.std.proofs.Common.{arith}
use Rattle.ns_events.proofs.Base64Lemmas.{base64_more}
use Rattle.ns_events.proofs.put.put_base64.Goals as goal

pub loop-i-preserved : goal.loop-i-preserved
loop-i-preserved c = (base64_more _ _ c.loop-i.text.bytes _ _ c.loop-i.i (omega arith) c.loop-i.invariant.0 c.put_group.ensures.bytes, omega arith)
