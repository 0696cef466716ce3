use Rattle.std.proofs.Common.{◌≡◌, ◌++◌, drop, string_bytes}
use Rattle.ns_status.specs.Metrics.{numbered_family, numbered_texts}
use Rattle.ns_status.proofs.metrics.put_numbered.Given as goal

-- the text so far with the samples that are left is the whole
abbrev pub invariant-loop-place : goal.invariant-loop-place
invariant-loop-place l = string_bytes l.text ++ numbered_texts l.name l.label l.place (drop l.place l.values) ≡ string_bytes l.fn.text ++ numbered_family l.name l.help l.label l.values
