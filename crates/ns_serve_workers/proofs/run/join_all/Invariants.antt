use Rattle.std.proofs.Common.{◌≡◌, ◌+◌, length, vec_len, Some}
use Rattle.std.specs.Prelude.{IsNone}
use Rattle.ns_serve_parts.specs.declared.options.ServeFault.TheVariants.{NoMemory}
use Rattle.ns_serve_workers.proofs.run.join_all.Given as goal

-- no fault of a worker that has ended is lost, and no pass where there was none
abbrev pub invariant-loop-worker : goal.invariant-loop-worker
invariant-loop-worker g l =
    (IsNone l.ends.fault → IsNone l.fn.ends.fault)
    × (l.fn.ends.fault ≡ Some NoMemory → l.ends.fault ≡ Some NoMemory)
    × (IsNone l.ends.fault → vec_len l.ends.passes ≡ vec_len l.fn.ends.passes + length l.yielded)
