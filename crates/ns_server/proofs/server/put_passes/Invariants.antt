use Rattle.std.proofs.Common.{◌≡◌, ◌+◌, ◌≤◌, vec_len}
use Rattle.std.specs.Prelude.{All, vec_capacity}
use Rattle.ns_tally.specs.Tally.{none_made}
use Rattle.ns_server.proofs.server.put_passes.Given as goal

abbrev pub invariant-loop-i : goal.invariant-loop-i
invariant-loop-i g l = record {
  parts : l.shares.parts + l._i ≡ l.workers;
  amounts : l.shares.amounts ≡ none_made;
  count : vec_len l.passes ≡ vec_len l.fn.passes + l._i;
  room : vec_len l.fn.passes + l.workers ≤ vec_capacity l.passes;
  none : All (λ p. p ≡ none_made) l.passes.items;
}
