use Rattle.ns_views.proofs.Reading.{join_fields-request}
use Rattle.ns_views.proofs.Sized.{IsJoinSized-request}
use Rattle.ns_views.proofs.laws.one_join_reading.Goals as goal

pub returns : goal.returns
returns c = λ bytes j h. (join_fields-request bytes j h, (IsJoinSized-request bytes j h).size)
