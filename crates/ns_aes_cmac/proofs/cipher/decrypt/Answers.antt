use Rattle.std.proofs.Common.{arith}
use Rattle.ns_aes_cmac.proofs.Back.{unaes_begins, unaes_later, unaes_ends}
use Rattle.ns_aes_cmac.proofs.cipher.decrypt.Goals as goal

pub loop-i-init : goal.loop-i-init
loop-i-init c key e = unaes_begins c.args.keys.now key c.args.block e

pub loop-i-preserved : goal.loop-i-preserved
loop-i-preserved c key e = unaes_later c.args.keys.now c.loop-i.v c.inverse_round-v.result _ c.loop-i.i _ _ (omega arith) c.inverse_round-v.ensures (c.loop-i.invariant key e)

pub returns : goal.returns
returns c key e = unaes_ends c.args.keys.now c.loop-i.v c.last_inverse_round.result _ c.loop-i.i (omega arith) c.last_inverse_round.ensures (c.loop-i.invariant key e)
