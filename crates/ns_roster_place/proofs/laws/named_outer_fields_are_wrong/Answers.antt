use Rattle.ns_roster_place.proofs.PlaceLemmas.{named_outer}
use Rattle.ns_roster_place.proofs.laws.named_outer_fields_are_wrong.Goals as goal

pub returns : goal.returns
returns c = named_outer
