use Rattle.ns_record.proofs.ReadBack.{records_back}
use Rattle.ns_record.proofs.laws.records_are_read_back.Goals as goal

pub returns : goal.returns
returns c = records_back
