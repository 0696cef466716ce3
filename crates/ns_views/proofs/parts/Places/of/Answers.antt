use Rattle.std.proofs.Common.{◌-◌, length, rules}
use Rattle.ns_views.proofs.Lent.{payload-part}
use Rattle.ns_views.proofs.parts.Places.of.Goals as goal

pub returns-clause-lent : goal.returns-clause-lent
returns-clause-lent c = payload-part (length c.fopts-options.result.now) c.min.result (length c.bytes.result.now - 4) c.args.bytes.now (search rules) (search rules) c.min.ensures
