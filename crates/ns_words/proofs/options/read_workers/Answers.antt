use Rattle.std.proofs.Common.{inl}
use Rattle.ns_words.specs.declared.options.OptionName.TheVariants.{JoinWorkers, Status, Workers}
use Rattle.ns_words.proofs.RefusedLemmas.{refused_for}
use Rattle.ns_words.proofs.options.read_workers.Goals as goal

pub returns-in_err-given_addr : goal.returns-in_err-given_addr
returns-in_err-given_addr c = refused_for c.from_residual.result _ _ Status c.in_err-given_addr.field-0.0 c.in_err-given_addr.ensures.refused.0 (c.in_err-given_addr.ensures.refused.1, c.in_err-given_addr.ensures.refused.2) c.from_residual.ensures.1

pub returns-in_err-count : goal.returns-in_err-count
returns-in_err-count c = refused_for c.from_residual-in_err-count.result _ _ Workers c.in_err-count.field-0.0 c.in_err-count.ensures.refused.0 (inl c.in_err-count.ensures.refused.1) c.from_residual-in_err-count.ensures.1

pub returns-in_err-count-2 : goal.returns-in_err-count-2
returns-in_err-count-2 c = refused_for c.from_residual-in_err-count-2.result _ _ JoinWorkers c.in_err-count-2.field-0.0 c.in_err-count-2.ensures.refused.0 c.in_err-count-2.ensures.refused.1 c.from_residual-in_err-count-2.ensures.1

pub returns : goal.returns
returns c = record {
  status = c.in_ok-given_addr.ensures.addr;
  workers = (c.in_ok-count.ensures.number, c.in_ok-count.ensures.count.0, c.in_ok-count.ensures.count.1);
  join_workers = (c.in_ok-count-2.ensures.number, c.in_ok-count-2.ensures.count.0, c.in_ok-count-2.ensures.count.1);
}
