use Rattle.std.proofs.Common.{◌≡◌, ◌+◌, vec_len}
use Rattle.ns_serve_threads.proofs.threads.start_all.Given as goal

abbrev pub invariant-loop-kit : goal.invariant-loop-kit
invariant-loop-kit g l = vec_len l.handles + vec_len l.kits ≡ vec_len l.fn.handles + vec_len l.fn.kits

abbrev pub decreases-loop-kit : goal.decreases-loop-kit
decreases-loop-kit g l = vec_len l.kits
