use Rattle.std.proofs.Common.{refl}
use Rattle.ns_creator.specs.DataFrame.{data_frame}
use Rattle.ns_creator.proofs.laws.acknowledgement_law.Goals as goal

pub returns : goal.returns
unfolding data_frame
returns c = λ keys addr counter. refl
