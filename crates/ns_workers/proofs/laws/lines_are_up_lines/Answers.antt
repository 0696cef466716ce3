use Rattle.ns_workers.proofs.WrittenLines.{lines-up}
use Rattle.ns_workers.proofs.laws.lines_are_up_lines.Goals as goal

pub returns : goal.returns
returns c = lines-up
