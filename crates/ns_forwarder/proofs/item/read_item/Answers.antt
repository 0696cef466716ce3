use Rattle.ns_forwarder.proofs.item.read_item.Goals as goal

pub returns-clause-band : goal.returns-clause-band
returns-clause-band c = record {
  lowest = c.if-freq-lt-LOWEST_FREQUENCY.false;
  highest = c.if-freq-gt-HIGHEST_FREQUENCY.false;
  dr = c.in_ok-dr.ensures.most;
  len = c.in_ok-frame.ensures.most;
}
