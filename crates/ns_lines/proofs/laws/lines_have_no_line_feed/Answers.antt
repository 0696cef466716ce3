use Rattle.ns_lines.proofs.LineLemmas.{no_line_feed}
use Rattle.ns_lines.proofs.laws.lines_have_no_line_feed.Goals as goal

pub returns : goal.returns
returns c = no_line_feed
