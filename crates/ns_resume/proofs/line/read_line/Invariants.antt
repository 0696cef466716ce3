use Rattle.std.proofs.Common.{◌≡◌, false}
use Rattle.std.specs.Io.KnownBytes.{Consumes}
use Rattle.ns_lines.specs.Text.{has_line_feed}
use Rattle.ns_resume.proofs.line.read_line.Given as goal

-- what was read so far is the line's beginning, without a line feed
abbrev pub invariant-parts : goal.invariant-parts
invariant-parts g l = (has_line_feed l.line.items ≡ false) × Consumes (g.S.Read.remaining l.fn.source) (g.S.Read.remaining l.source) l.line.items
