use Rattle.std.proofs.Common.{false, sym}
use Rattle.ns_roster.proofs.TextLemmas.{value_of-some, value_of-none}
use Rattle.ns_roster.proofs.field.value_of.Goals as goal

pub returns-in-Ok : goal.returns-in-Ok
returns-in-Ok c = let found = c.in-Ok.ensures.ok in sym (value_of-some _ _ found.0 found.1)

pub returns-else-is_memory : goal.returns-else-is_memory
returns-else-is_memory c = sym (value_of-none _ (c.in-Err.ensures.err (λ m. let bad : Rattle.std.specs.Bool.IsTrue false = c.if-is_memory.ensures.1 m in cc)))
