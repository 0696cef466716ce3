-- The last lines of a server that has ended: how many entries there are, and the closing roster, whose last nonces it has.
use Rattle.std.specs.Prelude.{ℕ, Bool, true, false, List, ◌++◌}
use Rattle.ns_roster.specs.Network.{Network}
use Rattle.ns_roster.specs.Closing.{network_text, with_greatest}
use Rattle.ns_shard.specs.State.{State}
use Rattle.ns_server.specs.Settled.{greatest_of}
use Rattle.ns_serve_parts.specs.Lines.{line}
use Rattle.ns_serve_streams.specs.Output.{settled_line}

-- the text of the closing roster
abbrev pub roster_text : Network → List State → List ℕ
roster_text net states = network_text (with_greatest net (greatest_of net states))

-- the last lines, with the closing roster where it is asked for
abbrev pub last_lines : Network → List State → ℕ → Bool → List ℕ
last_lines net states total false = settled_line total
last_lines net states total true = settled_line total ++ line (roster_text net states)
