use Rattle.std.proofs.Common.{◌≡◌}
use Rattle.ns_aes_cmac.specs.CmacState.{chained_from}
use Rattle.ns_aes_cmac.proofs.cmac.chained.Given as goal

-- the first i blocks are taken
abbrev pub invariant-loop-i : goal.invariant-loop-i
invariant-loop-i l = l.chain ≡ chained_from l.cipher l.fn.chain l.blocks l.i
