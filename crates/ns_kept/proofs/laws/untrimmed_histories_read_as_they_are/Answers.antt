use Rattle.ns_kept.proofs.ReadLemmas.{reading-whole}
use Rattle.ns_kept.proofs.laws.untrimmed_histories_read_as_they_are.Goals as goal

pub returns : goal.returns
returns c = reading-whole
