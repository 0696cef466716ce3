use Rattle.ns_views.proofs.Reading.{data_fields-frame}
use Rattle.ns_views.proofs.laws.one_reading.Goals as goal

pub returns : goal.returns
returns c = data_fields-frame
