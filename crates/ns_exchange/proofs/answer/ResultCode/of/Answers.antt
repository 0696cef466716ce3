use Rattle.std.proofs.Common.{◌∙◌}
use Rattle.ns_exchange.proofs.CutLemmas.{code_of-front}
use Rattle.ns_exchange.proofs.answer.ResultCode.of.Goals as goal

pub returns-clause-is : goal.returns-clause-is
returns-clause-is c = rw c.copy_from_slice.ensures.after (code_of-front c.args.code.now _ (c.as_bytes-front.ensures.value ∙ c.first_32.ensures.front))
