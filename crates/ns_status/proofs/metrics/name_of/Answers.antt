use Rattle.ns_status.proofs.metrics.name_of.Goals as goal

pub returns : goal.returns
returns c = rw (c.as_str.ensures.value, c.in_ok-eui.ensures.text, c.in_ok-text.ensures.ok) at c.in_ok-put_parts.ensures
