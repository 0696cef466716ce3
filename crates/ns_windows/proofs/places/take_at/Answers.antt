use Rattle.std.proofs.Common.{None, sym, ◌∙◌}
use Rattle.std.specs.Map.{values_of}
use Rattle.ns_windows.proofs.Placed.{at-some, set-outside}
use Rattle.ns_windows.proofs.places.take_at.Goals as goal

pub returns-in_default-clause-entries : goal.returns-in_default-clause-entries
returns-in_default-clause-entries c = set-outside _ _ None (sym c.in_default.ensures.value)

pub returns-clause-result : goal.returns-clause-result
returns-clause-result c = c.take.ensures.value ∙ sym (at-some (values_of c.args.names.now.entries) c.args.place c.in-Some.window.now (sym c.in-Some.ensures.value))
