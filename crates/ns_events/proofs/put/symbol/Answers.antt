use Rattle.std.proofs.Common.{refl, lit<}
use Rattle.ns_events.specs.Base64.{symbols}
use Rattle.ns_events.proofs.Base64Lemmas.{below_at}
use Rattle.ns_events.proofs.put.symbol.Goals as goal

pub returns-clause-ascii : goal.returns-clause-ascii
returns-clause-ascii c = rw c.from.ensures (below_at symbols 128 (lit< tt) refl c.args.n)
