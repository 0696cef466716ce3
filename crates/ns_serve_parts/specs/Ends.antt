-- How a server ends, by its workers' ends.
use Rattle.std.specs.Prelude.{◌≡◌, ◌⊎◌, ◌↔◌, Option, Some, IsNone}
use Rattle.ns_outside.specs.declared.fault.WorkerFault.{WorkerFault}
use Rattle.ns_outside.specs.declared.fault.WorkerFault.TheVariants as worker
use Rattle.ns_serve_parts.specs.declared.options.ServeFault.{ServeFault}
use Rattle.ns_serve_parts.specs.declared.options.ServeFault.TheVariants as serve

-- the fault of a server whose worker ended so
abbrev pub serve_fault : WorkerFault → ServeFault
serve_fault worker.NoMemory = serve.NoMemory
serve_fault worker.SourceFailed = serve.Io
serve_fault worker.SinkFailed = serve.Io

-- want of memory is told where any worker met it
abbrev pub IsWorse : Option ServeFault → Option ServeFault → Option ServeFault → Type 0
IsWorse before fault after =
    (IsNone after ↔ (IsNone before × IsNone fault))
    × ((after ≡ Some serve.NoMemory) ↔ ((before ≡ Some serve.NoMemory) ⊎ (fault ≡ Some serve.NoMemory)))
