use Rattle.ns_checkpoint.proofs.OneText.{same-checkpoint}
use Rattle.ns_checkpoint.proofs.laws.texts_have_one_reading.Goals as goal

pub returns : goal.returns
returns c = record { ups = λ a b wa wb e. (same-checkpoint a b wa wb e).0; shards = λ a b wa wb e. (same-checkpoint a b wa wb e).1 }
