use Rattle.std.proofs.Common.{◌++◌, sym, ap, ◌∙◌}
use Rattle.std.proofs.lemmas.Fmt.{decimal_digit}
use Rattle.ns_lines.proofs.put.put_decimal.Goals as goal

pub returns-then-n-lt10-clause-bytes : goal.returns-then-n-lt10-clause-bytes
returns-then-n-lt10-clause-bytes c = c.put_text.ensures.bytes ∙ ap (λ l. c.args.line.now.bytes ++ l) (sym (decimal_digit c.args.n c.if-n-lt10.true))
