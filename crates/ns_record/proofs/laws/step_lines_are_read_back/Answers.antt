use Rattle.ns_record.proofs.ReadBack.{back, one_line}
use Rattle.ns_record.proofs.laws.step_lines_are_read_back.Goals as goal

pub returns-clause-back : goal.returns-clause-back
returns-clause-back c = back

pub returns-clause-line : goal.returns-clause-line
returns-clause-line c = one_line
