use Rattle.std.proofs.Common.{rules, arith}
use Rattle.ns_server.proofs.check.is_repeated.Goals as goal

pub offset_bounds-receipts-i : goal.offset_bounds-receipts-i
offset_bounds-receipts-i c = search rules

pub bounds-receipts-i : goal.bounds-receipts-i
bounds-receipts-i c = c.requires

pub loop-j-init : goal.loop-j-init
loop-j-init c = λ k q below at same. absurd (omega (arith, below))

pub offset_bounds-receipts-j : goal.offset_bounds-receipts-j
offset_bounds-receipts-j c = search rules

pub bounds-receipts-j : goal.bounds-receipts-j
bounds-receipts-j c = omega arith
