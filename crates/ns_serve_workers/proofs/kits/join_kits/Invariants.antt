use Rattle.std.proofs.Common.{◌≡◌, ◌+◌, ◌-◌, ◌≤◌, vec_len, vec_capacity}
use Rattle.std.specs.Prelude.{All}
use Rattle.ns_tally.specs.Tally.{none_made}
use Rattle.ns_serve_workers.proofs.kits.join_kits.Given as goal

-- there is room for all kits; a pass is in a kit or waits for one, and with none that waits a call was made
abbrev pub invariant-loop-passes : goal.invariant-loop-passes
invariant-loop-passes g l =
    (l.count ≤ vec_capacity l.kits) × (vec_len l.kits ≤ l.count) × (vec_len l.kits + vec_len l.passes ≡ vec_len l.fn.passes) × All (λ p. g.S.Calls.made p ≡ none_made) l.passes.items

abbrev pub decreases-loop-passes : goal.decreases-loop-passes
decreases-loop-passes g l = l.count - vec_len l.kits
