use Rattle.std.proofs.Common.{append_assoc}
use Rattle.ns_events.specs.Notice.{ack_json}
use Rattle.ns_events.proofs.notice.ack_json.Goals as goal

pub returns : goal.returns
unfolding ack_json
returns c = rw (c.push_str-3.ensures.bytes, c.put_identity.ensures.bytes, c.push_str-2.ensures.bytes, c.put_number.ensures.bytes, c.put_session.ensures.bytes, c.put_time_of.ensures.bytes, c.push_str.ensures.bytes) (simp (append_assoc, c.from.ensures, c.new-text.ensures))
