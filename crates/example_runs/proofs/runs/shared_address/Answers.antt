use Rattle.example_runs.proofs.SharedAddress.{shared_address}
use Rattle.example_runs.proofs.runs.shared_address.Goals as goal

pub returns : goal.returns
returns c = shared_address
