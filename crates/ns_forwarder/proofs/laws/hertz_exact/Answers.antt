use Rattle.ns_forwarder.proofs.HertzLemmas.{hertz-exact}
use Rattle.ns_forwarder.proofs.laws.hertz_exact.Goals as goal

pub returns : goal.returns
returns c = hertz-exact
