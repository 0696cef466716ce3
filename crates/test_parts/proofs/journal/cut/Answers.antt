use Rattle.ns_journal.proofs.Parting.{no_numbers}
use Rattle.test_parts.proofs.journal.cut.Goals as goal

pub cut-requires-clause-numbers : goal.cut-requires-clause-numbers
cut-requires-clause-numbers c = no_numbers c.args.journal.now.entries
