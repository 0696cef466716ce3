use Rattle.std.proofs.Common.{append_assoc}
use Rattle.ns_status.proofs.response.put_tag.Goals as goal

pub returns-in-Some-clause-bytes : goal.returns-in-Some-clause-bytes
returns-in-Some-clause-bytes c = rw c.in-Some.is (simp (c.push_str-in-Some-2.ensures.bytes, c.push_str-in-Some.ensures.bytes, c.push_str.ensures.bytes, c.format.ensures.text, append_assoc))
