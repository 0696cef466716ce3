use Rattle.std.proofs.Common.{sym, subst, ◌∙◌}
use Rattle.ns_journal.specs.State.{AreNumbersOf}
use Rattle.test_parts.proofs.Numbers.{all_numbers}
use Rattle.test_parts.proofs.journal.is_cut_to_all.Goals as goal

pub cut-requires-clause-numbers : goal.cut-requires-clause-numbers
cut-requires-clause-numbers c =
    subst (AreNumbersOf c.args.journal.now.entries) (sym (c.as_slice.ensures.value ∙ c.in_ok-stay.ensures)) (all_numbers c.args.journal.now.entries)
