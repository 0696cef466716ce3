use Rattle.ns_views.proofs.Sized.{view_fault-exact, parts_fault-exact}
use Rattle.ns_views.proofs.laws.fault_law.Goals as goal

pub returns-clause-view : goal.returns-clause-view
returns-clause-view c = view_fault-exact

pub returns-clause-parts : goal.returns-clause-parts
returns-clause-parts c = parts_fault-exact
