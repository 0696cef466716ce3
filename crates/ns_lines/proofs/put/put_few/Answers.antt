use Rattle.std.proofs.Common.{arith}
use Rattle.hex.specs.Hex.{lower_digits}
use Rattle.ns_lines.proofs.HexText.{encode_nil, encode_more}
use Rattle.ns_lines.proofs.put.put_few.Goals as goal

pub loop-byte-init : goal.loop-byte-init
loop-byte-init c = (encode_nil lower_digits _, omega arith)

pub loop-byte-preserved : goal.loop-byte-preserved
loop-byte-preserved c =
    (encode_more lower_digits _ c.args.bytes.now c.loop-byte.byte-index c.loop-byte.line.bytes _ c.loop-byte-test.true c.loop-byte.invariant.0 c.put_byte.ensures.bytes, omega arith)
