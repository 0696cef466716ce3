use Rattle.std.proofs.Common.{◌≡◌, ◌<◌, ◌-◌, ◌^◌, [], false, length}
use Rattle.ns_runs.specs.Lines.{Gives}
use Rattle.ns_replay.specs.Private.Read.{lines_left}
use Rattle.ns_replay.proofs.reading.LineReader.read_line.Given as goal

-- no line was given yet, and what was read is in the one that has not ended
abbrev pub invariant-reading : goal.invariant-reading
invariant-reading g l = record {
  sound : g.S.Stream.has_failed l.source ≡ false;
  empty : l.self.block ≡ [];
  bounded : length l.self.begun < 2 ^ 64;
  same : Gives (lines_left l.initial.self (g.S.Source.left l.initial.source)) (lines_left l.self (g.S.Source.left l.source)) [];
}

-- each block makes the line longer
abbrev pub decreases-reading : goal.decreases-reading
decreases-reading g l = 2 ^ 64 - length l.self.begun
