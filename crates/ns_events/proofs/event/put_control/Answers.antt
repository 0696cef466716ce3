use Rattle.std.proofs.Common.{append_assoc}
use Rattle.ns_events.specs.Uplink.{control_text}
use Rattle.ns_events.proofs.event.put_control.Goals as goal

pub returns-clause-bytes : goal.returns-clause-bytes
unfolding control_text
returns-clause-bytes c = rw (c.put_flag-5.ensures.bytes, c.put_flag-4.ensures.bytes, c.put_flag-3.ensures.bytes, c.put_flag-2.ensures.bytes, c.put_flag.ensures.bytes) (simp append_assoc)
