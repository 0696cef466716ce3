use Rattle.std.proofs.Common.{◌≡◌, ℕ, ◌+◌, List, length}
use Rattle.std.specs.Io.KnownBytes.{Consumes}
use Rattle.ns_resume.proofs.base.skip_ups.Given as goal

-- some bytes were read, and so many are left to be read
abbrev pub invariant-lines : goal.invariant-lines
invariant-lines g l = (there : List ℕ) × Consumes (g.U.Read.remaining l.fn.ups) (g.U.Read.remaining l.ups) there × (length there + l.left ≡ l.fn.bytes)

abbrev pub decreases-lines : goal.decreases-lines
decreases-lines g l = l.left
