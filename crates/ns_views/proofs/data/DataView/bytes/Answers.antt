use Rattle.ns_views.proofs.Sized.{PartsCover-uplink}
use Rattle.ns_views.proofs.data.DataView.bytes.Goals as goal

pub returns-clause-parts : goal.returns-clause-parts
returns-clause-parts c = rw (← c.self.view_is) (PartsCover-uplink c.self.inside.frame.now c.self.invariant)
