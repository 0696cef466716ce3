use Rattle.std.proofs.Common.{◌≡◌, ◌++◌, map, drop, string_bytes}
use Rattle.ns_status.specs.Metrics.{named, named_texts}
use Rattle.ns_status.proofs.metrics.put_samples.Given as goal

-- the text so far with the samples that are left is the whole
abbrev pub invariant-loop-sample : goal.invariant-loop-sample
invariant-loop-sample l = string_bytes l.text ++ named_texts l.name l.label (map named (drop l.sample-index l.samples)) ≡ string_bytes l.initial.text ++ named_texts l.name l.label (map named l.samples)
