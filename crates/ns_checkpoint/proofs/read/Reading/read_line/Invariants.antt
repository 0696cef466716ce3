use Rattle.std.proofs.Common.{◌≡◌, ◌+◌}
use Rattle.std.specs.Io.KnownBytes.{Consumes}
use Rattle.ns_checkpoint.proofs.read.Reading.read_line.Given as goal

-- what was read so far of the line
abbrev pub invariant-parts : goal.invariant-parts
invariant-parts g l =
    Consumes (g.S.Read.remaining l.fn.source) (g.S.Read.remaining l.source) l.self.line.items
    × (l.self.number ≡ l.fn.self.number + 1) × (l.self.mac ≡ l.fn.self.mac)
