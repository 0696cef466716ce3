use Rattle.std.proofs.Common.{◌≡◌, ◌≤◌, vec_len, vec_capacity}
use Rattle.ns_serve_workers.proofs.kits.gateway_ends.Given as goal

abbrev pub invariant-loop-place : goal.invariant-loop-place
invariant-loop-place l = (l.count ≤ vec_capacity l.ends) × (vec_len l.ends ≡ l.place)
