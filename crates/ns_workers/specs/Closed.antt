-- What a closer does with one job, and with all that it takes.
use Rattle.std.specs.Prelude.{ℕ, ◌≡◌, List, [], ◌∷◌, ◌++◌, Option, Some}
use Rattle.ns_roster.specs.Network.{Network}
use Rattle.ns_output.specs.declared.output.Output.{Output}
use Rattle.ns_outside.specs.declared.receipt.Receipt.{Receipt}
use Rattle.ns_outside.specs.declared.job.CloseJob.{CloseJob}
use Rattle.ns_outside.specs.declared.fault.WorkerFault.{WorkerFault}
use Rattle.ns_outside.specs.declared.fault.WorkerFault.TheVariants.{NoMemory}
use Rattle.ns_outside.specs.Given.{Given}
use Rattle.ns_outside.specs.Notice.{Notice}
use Rattle.ns_workers.specs.Closing.{closing, Closes}
use Rattle.ns_workers.specs.Effects.{Effects, Does}

-- the receipt of the job's closing comes behind the others, with what goes out; after K1 nothing has changed
abbrev pub ClosesOne : Network → Output → (Notice → Type 0) → CloseJob → Option WorkerFault → Effects → Effects → List Receipt → List Receipt → Type 0
ClosesOne net output has_heard job (Some NoMemory) before after old new = (new ≡ old) × (after ≡ before)
ClosesOne net output has_heard job fault before after old new =
    (r : Receipt) × (new ≡ old ++ r ∷ []) × (r.entry.call ≡ closing job) × Does net output has_heard fault before after (r ∷ []) (r ∷ []) []

-- what a closer did with the jobs that it took, and what goes out with the receipts
pub record ClosesAll (net : Network) (output : Output) (has_heard : Notice → Type 0) (has_come : ℕ → Type 0) (limit : ℕ)
    (old new : Option (Given CloseJob)) (before after : Effects) (receipts : List Receipt) (fault : Option WorkerFault) : Type 0 where
  pub closes : Closes has_come limit old new receipts fault
  pub does : Does net output has_heard fault before after receipts receipts []
