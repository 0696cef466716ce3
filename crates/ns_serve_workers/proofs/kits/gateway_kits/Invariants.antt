use Rattle.std.proofs.Common.{◌≡◌, ◌+◌, ◌≤◌, vec_len, vec_capacity}
use Rattle.std.specs.Prelude.{All}
use Rattle.ns_tally.specs.Tally.{none_made}
use Rattle.ns_serve_workers.proofs.kits.gateway_kits.Given as goal

-- there is room for all kits; a pass is in a kit or waits for one, as many as there are ends, and with none that waits a call was made
abbrev pub invariant-loop-end : goal.invariant-loop-end
invariant-loop-end g l =
    (vec_len l.fn.ends ≤ vec_capacity l.kits) × (vec_len l.kits + vec_len l.ends ≡ vec_len l.fn.ends) × (vec_len l.kits + vec_len l.passes ≡ vec_len l.fn.passes) × All (λ p. g.S.Calls.made p ≡ none_made) l.passes.items

abbrev pub decreases-loop-end : goal.decreases-loop-end
decreases-loop-end g l = vec_len l.ends
