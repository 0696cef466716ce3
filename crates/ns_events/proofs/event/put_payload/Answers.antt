use Rattle.std.proofs.Common.{append_assoc}
use Rattle.ns_events.specs.Uplink.{payload_text}
use Rattle.ns_events.proofs.event.put_payload.Goals as goal

pub returns-clause-bytes : goal.returns-clause-bytes
unfolding payload_text
returns-clause-bytes c = rw (c.push_str-3.ensures.bytes, c.put_base64.ensures.bytes, c.push_str-2.ensures.bytes, c.put_hex.ensures.bytes, c.push_str.ensures.bytes) (simp (append_assoc))
