use Rattle.std.proofs.Common.{[]}
use Rattle.ns_calls.proofs.LegalLemmas.{after-by_place, by_place-after}
use Rattle.ns_calls.proofs.laws.legal_by_entry.Goals as goal

pub returns : goal.returns
returns c net h = (by_place-after net [] h, after-by_place net [] h)
