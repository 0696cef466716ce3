use Rattle.std.proofs.Common.{◌≡◌, ◌++◌, drop, string_bytes}
use Rattle.ns_status.specs.Metrics.{timed_by_gateway_text, timed_gateway_texts}
use Rattle.ns_status.proofs.metrics.put_timed_by_gateway.Given as goal

-- the text so far with the samples that are left is the whole
abbrev pub invariant-loop-sample : goal.invariant-loop-sample
invariant-loop-sample l = string_bytes l.text ++ timed_gateway_texts l.family.name.now (drop l.sample-index l.samples) ≡ string_bytes l.fn.text ++ timed_by_gateway_text l.family.name.now l.family.help.now l.family.kind l.samples
