use Rattle.ns_steps.proofs.FirstByte.{first_byte}
use Rattle.ns_steps.proofs.step_lines.place_of.Goals as goal

pub returns-clause-value : goal.returns-clause-value
returns-clause-value c = first_byte c.args.byte c.args.text.now c.memchr.result c.memchr.ensures
