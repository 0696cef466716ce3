use Rattle.std.proofs.Common.{◌≡◌, length, flat_map, take}
use Rattle.ns_checkpoint.specs.Text.{window_lines}
use Rattle.ns_checkpoint.proofs.write.window_count.Given as goal

-- the lines of those so far
abbrev pub invariant-loop-window : goal.invariant-loop-window
invariant-loop-window l = l.lines ≡ length (flat_map window_lines (take l.window-index l.windows))
