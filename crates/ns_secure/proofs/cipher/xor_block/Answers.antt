use Rattle.std.proofs.Common.{◌∙◌, arith}
use Rattle.ns_secure.proofs.Stream.{summed_none, summed_more, summed_all}
use Rattle.ns_secure.proofs.cipher.xor_block.Goals as goal

pub loop-i-init : goal.loop-i-init
loop-i-init c = summed_none c.args.bytes.now c.args.stream.now

pub loop-i-preserved : goal.loop-i-preserved
loop-i-preserved c =
    let e = c.loop-i.invariant in
    rw e (summed_more c.loop-i.i c.args.bytes.now c.args.stream.now (omega arith) (omega arith))

pub returns : goal.returns
returns c =
    c.loop-i.invariant ∙ summed_all c.loop-i.i c.args.bytes.now c.args.stream.now (omega arith) (omega arith)
