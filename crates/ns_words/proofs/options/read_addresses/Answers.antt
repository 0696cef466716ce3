use Rattle.ns_words.specs.declared.options.OptionName.TheVariants.{Forwarders, Host, Join, Listen, Power}
use Rattle.ns_words.proofs.RefusedLemmas.{refused_for}
use Rattle.ns_words.proofs.options.read_addresses.Goals as goal

pub returns-in_err-addr : goal.returns-in_err-addr
returns-in_err-addr c = refused_for c.from_residual.result _ _ Join c.in_err-addr.field-0.0 c.in_err-addr.ensures.refused.0 c.in_err-addr.ensures.refused.1 c.from_residual.ensures.1

pub returns-in_err-host : goal.returns-in_err-host
returns-in_err-host c = refused_for c.from_residual-in_err-host.result _ _ Host c.in_err-host.field-0.0 c.in_err-host.ensures.refused.0 c.in_err-host.ensures.refused.1 c.from_residual-in_err-host.ensures.1

pub returns-in_err-given_addr : goal.returns-in_err-given_addr
returns-in_err-given_addr c = refused_for c.from_residual-in_err-given_addr.result _ _ Listen c.in_err-given_addr.field-0.0 c.in_err-given_addr.ensures.refused.0 (c.in_err-given_addr.ensures.refused.1, c.in_err-given_addr.ensures.refused.2) c.from_residual-in_err-given_addr.ensures.1

pub returns-in_err-given_addr-2 : goal.returns-in_err-given_addr-2
returns-in_err-given_addr-2 c = refused_for c.from_residual-in_err-given_addr-2.result _ _ Forwarders c.in_err-given_addr-2.field-0.0 c.in_err-given_addr-2.ensures.refused.0 (c.in_err-given_addr-2.ensures.refused.1, c.in_err-given_addr-2.ensures.refused.2) c.from_residual-in_err-given_addr-2.ensures.1

pub returns-in_err-count : goal.returns-in_err-count
returns-in_err-count c = refused_for c.from_residual-in_err-count.result _ _ Power c.in_err-count.field-0.0 c.in_err-count.ensures.refused.0 c.in_err-count.ensures.refused.1 c.from_residual-in_err-count.ensures.1

pub returns : goal.returns
returns c = record {
  join = c.in_ok-addr.ensures.addr;
  host = c.in_ok-host.ensures.host;
  listen = c.in_ok-given_addr.ensures.addr;
  forwarders = c.in_ok-given_addr-2.ensures.addr;
  power = (c.in_ok-count.ensures.number, c.in_ok-count.ensures.count.0, c.in_ok-count.ensures.count.1);
}
