use Rattle.std.proofs.Common.{◌≡◌, take}
use Rattle.ns_resume.specs.Resumed.{windows_in, tickets_in}
use Rattle.ns_resume.proofs.open.open_in.Given as goal

-- the windows and tickets of the shards so far
abbrev pub invariant-shards : goal.invariant-shards
invariant-shards l = (l.windows.items ≡ windows_in (take l.shard-index l.shards)) × (l.tickets.items ≡ tickets_in (take l.shard-index l.shards))
