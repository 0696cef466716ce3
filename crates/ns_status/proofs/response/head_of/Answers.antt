use Rattle.std.proofs.Common.{append_assoc}
use Rattle.ns_status.specs.Response.{fields_text}
use Rattle.ns_status.proofs.response.head_of.Goals as goal

pub returns : goal.returns
unfolding fields_text
returns c =
    simp (c.push_str-5.ensures.bytes, c.put_tag.ensures.bytes, c.put_length.ensures.bytes, c.push_str-4.ensures.bytes, c.media_type.ensures.is, c.push_str-3.ensures.bytes, c.push_str-2.ensures.bytes, c.words.ensures.words, c.push_str.ensures.bytes, c.new-head.ensures, append_assoc)
