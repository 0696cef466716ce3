use Rattle.std.proofs.Common.{append_assoc}
use Rattle.ns_events.specs.Notice.{session_text}
use Rattle.ns_events.proofs.notice.put_session.Goals as goal

pub returns-clause-bytes : goal.returns-clause-bytes
unfolding session_text
returns-clause-bytes c = rw (c.put_number.ensures.bytes, c.put_address.ensures.bytes, c.push_str-2.ensures.bytes, c.put_identity.ensures.bytes, c.push_str.ensures.bytes) (simp (append_assoc, c.from.ensures))
