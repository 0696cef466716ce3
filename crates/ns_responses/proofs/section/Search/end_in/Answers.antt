use Rattle.ns_responses.proofs.LinesLemmas.{search_all}
use Rattle.ns_responses.proofs.section.Search.end_in.Goals as goal

pub returns-clause-none : goal.returns-clause-none
returns-clause-none c = search_all c.loop-self.self c.args.bytes.now c.loop-self-test.false c.loop-self.invariant
