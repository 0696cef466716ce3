use Rattle.std.proofs.Common.{rules}
use Rattle.ns_serve_shards.proofs.RecordLemmas.{resumed_in_place}
use Rattle.ns_serve_shards.proofs.begun.run_files.Goals as goal

pub returns : goal.returns
returns c = resumed_in_place _ _ _ _ _ c.run_record.ensures.resumed (search rules)
