use Rattle.std.proofs.Common.{append_assoc}
use Rattle.ns_record.specs.StepText.{accept_text}
use Rattle.ns_record.proofs.step_text.put_accept.Goals as goal

pub returns : goal.returns
unfolding accept_text
returns c =
    rw (c.push_str-3.ensures.bytes, c.put_decimal.ensures.bytes, c.from.ensures, c.push_str-2.ensures.bytes, c.put_hex.ensures.bytes, c.as_slice.ensures.bytes, c.push_str.ensures.bytes)
    (simp append_assoc)
