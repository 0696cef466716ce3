use Rattle.std.proofs.Common.{append_assoc}
use Rattle.ns_events.proofs.times.put_time.Goals as goal

pub returns-clause-bytes : goal.returns-clause-bytes
returns-clause-bytes c = rw (c.put_three.ensures.bytes, c.push_str-3.ensures.bytes, c.put_two-3.ensures.bytes, c.push_str-2.ensures.bytes, c.put_two-2.ensures.bytes, c.push_str.ensures.bytes, c.put_two.ensures.bytes) (simp (append_assoc, c.from.ensures, c.from-2.ensures, c.from-3.ensures))
