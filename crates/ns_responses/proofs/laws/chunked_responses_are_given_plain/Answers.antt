use Rattle.ns_responses.proofs.SentLemmas.{sent_plain}
use Rattle.ns_responses.proofs.laws.chunked_responses_are_given_plain.Goals as goal

pub returns : goal.returns
returns c s more is = sent_plain s more is
