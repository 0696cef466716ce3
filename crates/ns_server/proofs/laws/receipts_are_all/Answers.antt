use Rattle.ns_server.proofs.Since.{all_receipts}
use Rattle.ns_server.proofs.laws.receipts_are_all.Goals as goal

pub returns : goal.returns
returns c = all_receipts
