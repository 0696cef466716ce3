use Rattle.std.proofs.Common.{Option, ap, ◌∙◌}
use Rattle.std.specs.Option.{is_some}
use Rattle.ns_shard.specs.declared.event.Ended.{Ended}
use Rattle.ns_shard.proofs.Endings.{close-ending}
use Rattle.ns_shard.proofs.PartsAfter.{ending-open, ending-taken, ending-none}
use Rattle.ns_shard.proofs.parts.Parts.close.Goals as goal

pub returns-in_err-close-clause-open : goal.returns-in_err-close-clause-open
returns-in_err-close-clause-open c =
    let p = c.args.self.now in
    rw c.from_residual.ensures (ap (λ (o : Option Ended). is_some o) c.in_err-close.ensures.ended ∙ ending-open p c.requires.agree (close-ending p c.requires.agree c.args.window.now c.close.ensures.devices c.close.ensures.windows))

pub returns-in_err-close-clause-none : goal.returns-in_err-close-clause-none
returns-in_err-close-clause-none c =
    let p = c.args.self.now in
    rw c.from_residual.ensures (ending-none p c.requires.agree (close-ending p c.requires.agree c.args.window.now c.close.ensures.devices c.close.ensures.windows) c.in_err-close.ensures.ended)

pub returns-clause-open : goal.returns-clause-open
returns-clause-open c =
    let p = c.args.self.now in
    ap (λ (o : Option Ended). is_some o) c.in_ok-close.ensures.ended ∙ ending-open p c.requires.agree (close-ending p c.requires.agree c.args.window.now c.close.ensures.devices c.close.ensures.windows)

pub returns-clause-taken : goal.returns-clause-taken
returns-clause-taken c =
    let p = c.args.self.now in
    ending-taken p c.requires.agree (close-ending p c.requires.agree c.args.window.now c.close.ensures.devices c.close.ensures.windows) c.in_ok-close.field-0 c.in_ok-close.ensures.ended
