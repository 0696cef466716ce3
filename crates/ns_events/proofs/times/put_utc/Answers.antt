use Rattle.std.proofs.Common.{append_assoc}
use Rattle.ns_events.specs.Times.{utc_text}
use Rattle.ns_events.proofs.times.put_utc.Goals as goal

pub returns-clause-bytes : goal.returns-clause-bytes
unfolding utc_text
returns-clause-bytes c = rw (c.push_str-2.ensures.bytes, c.put_time.ensures.bytes, c.push_str.ensures.bytes, c.put_date.ensures.bytes) (simp append_assoc)
