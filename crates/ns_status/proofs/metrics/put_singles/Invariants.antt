use Rattle.std.proofs.Common.{◌≡◌, ◌++◌, map, drop, string_bytes}
use Rattle.ns_status.specs.Metrics.{single, singles_text}
use Rattle.ns_status.proofs.metrics.put_singles.Given as goal

-- the text so far with the names that are left is the whole
abbrev pub invariant-loop-place : goal.invariant-loop-place
invariant-loop-place l = string_bytes l.text ++ singles_text (map single (drop l.place l.singles)) (drop l.place l.values) ≡ string_bytes l.initial.text ++ singles_text (map single l.singles) l.values
