use Rattle.std.proofs.Common.{append_assoc, eq-eqb}
use Rattle.ns_events.specs.Uplink.{rate_text}
use Rattle.ns_events.proofs.event.put_rate.Goals as goal

pub returns-in-Some-clause-bytes : goal.returns-in-Some-clause-bytes
unfolding rate_text
returns-in-Some-clause-bytes c = rw (c.put_number-in-Some.ensures.bytes, c.put_number.ensures.bytes, ← c.in-Some.ensures) (simp (append_assoc, c.from.ensures, c.from-in-Some.ensures))

pub returns-in-None-clause-bytes : goal.returns-in-None-clause-bytes
unfolding rate_text
returns-in-None-clause-bytes c = rw (c.push_str.ensures.bytes, ← c.in-None.ensures, eq-eqb c.args.dr 7 c.if-dr-eq7.true)
