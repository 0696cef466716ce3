use Rattle.ns_events.proofs.LineLemmas.{json-line}
use Rattle.ns_events.proofs.laws.uplinks_have_no_line_feed.Goals as goal

pub returns : goal.returns
returns c = json-line
