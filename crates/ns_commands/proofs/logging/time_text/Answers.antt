use Rattle.std.proofs.Common.{rules, ℕ, Bool, Option, Some, ap, ◌∙◌}
use Rattle.ns_commands.proofs.logging.time_text.Goals as goal

pub returns-clause-text : goal.returns-clause-text
returns-clause-text c =
    let with_places : Bool × ℕ × Option ℕ → Bool × ℕ × Option ℕ = λ o. (o.0, o.1, Some 3) in
    (c.precision.result, c.precision.ensures ∙ ap with_places c.new.ensures, c.in_ok-timestamp.timestamp, search rules, c.timestamp_text.ensures)
