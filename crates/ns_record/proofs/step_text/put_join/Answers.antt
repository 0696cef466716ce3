use Rattle.std.proofs.Common.{append_assoc}
use Rattle.ns_record.specs.StepText.{join_text}
use Rattle.ns_record.proofs.step_text.put_join.Goals as goal

pub returns : goal.returns
unfolding join_text
returns c =
    rw (c.put_accept.ensures, c.put_key.ensures.bytes, c.push_str-2.ensures.bytes, c.put_app.ensures.bytes, c.push_str.ensures.bytes)
    (simp append_assoc)
