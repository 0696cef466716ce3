use Rattle.std.proofs.Common.{append_assoc}
use Rattle.ns_events.specs.Uplink.{times_text}
use Rattle.ns_events.proofs.event.put_times.Goals as goal

pub returns-in-Some-clause-bytes : goal.returns-in-Some-clause-bytes
unfolding times_text
returns-in-Some-clause-bytes c = rw (c.push_str-in-Some-2.ensures.bytes, c.put_utc-in-Some.ensures.bytes, c.push_str-in-Some.ensures.bytes, c.put_utc.ensures.bytes, c.push_str.ensures.bytes, c.in-Some.is) (simp append_assoc)
