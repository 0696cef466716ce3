use Rattle.ns_words.specs.declared.options.OptionName.TheVariants.{StopAfter, Trim, Window}
use Rattle.ns_words.proofs.RefusedLemmas.{refused_for}
use Rattle.ns_words.proofs.options.read_limits.Goals as goal

pub returns-in_err-count : goal.returns-in_err-count
returns-in_err-count c = refused_for c.from_residual.result _ _ Window c.in_err-count.field-0.0 c.in_err-count.ensures.refused.0 c.in_err-count.ensures.refused.1 c.from_residual.ensures.1

pub returns-in_err-given : goal.returns-in_err-given
returns-in_err-given c = refused_for c.from_residual-in_err-given.result _ _ StopAfter c.in_err-given.field-0.0 c.in_err-given.ensures.refused.0 (c.in_err-given.ensures.refused.1, c.in_err-given.ensures.refused.2) c.from_residual-in_err-given.ensures.1

pub returns-in_err-trim : goal.returns-in_err-trim
returns-in_err-trim c = refused_for c.from_residual-in_err-trim.result _ _ Trim c.in_err-trim.field-0.0 c.in_err-trim.ensures.refused.0 (c.in_err-trim.ensures.refused.1, c.in_err-trim.ensures.refused.2) c.from_residual-in_err-trim.ensures.1

pub returns : goal.returns
returns c = record {
  window_ms = (c.in_ok-count.ensures.number, c.in_ok-count.ensures.count.0, c.in_ok-count.ensures.count.1);
  stop_after = c.in_ok-given.ensures.number;
  stop_at_end = c.flag.ensures;
  trim = c.in_ok-trim.ensures.number;
}
