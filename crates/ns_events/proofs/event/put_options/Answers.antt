use Rattle.std.proofs.Common.{append_assoc}
use Rattle.ns_events.specs.Uplink.{options_text}
use Rattle.ns_events.proofs.event.put_options.Goals as goal

pub returns-clause-bytes : goal.returns-clause-bytes
unfolding options_text
returns-clause-bytes c = rw (c.put_flag.ensures.bytes, c.put_hex.ensures.bytes, c.push_str.ensures.bytes) (simp (append_assoc, c.as_slice.ensures.bytes, c.is_sealed.ensures))
