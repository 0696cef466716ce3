use Rattle.std.proofs.Common.{sym, ap, ◌∙◌}
use Rattle.ns_resume.specs.Private.Lines.{is_front}
use Rattle.ns_resume.proofs.Lines.{front-is}
use Rattle.ns_resume.proofs.ups.Ups.has.Goals as goal

pub returns-then-is_front-clause-front : goal.returns-then-is_front-clause-front
returns-then-is_front-clause-front g c =
    let whole = c.in_ok-is_whole.is_whole in
    let part = c.read_line.new.line.items in
    let line = c.args.line.now in
    front-is whole part line (ap (λ l. is_front whole l line) (sym c.as_slice.ensures.value) ∙ (sym c.is_front.ensures ∙ c.if-is_front.true))
