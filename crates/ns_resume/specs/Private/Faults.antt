-- Why a line is not run.
use Rattle.std.specs.Prelude.{◌≡◌, ℕ, false, List, slice_get, None, Some}
use Rattle.std.specs.Result.{result_ok}
use Rattle.ns_roster.specs.Network.{Network}
use Rattle.ns_calls.specs.declared.call.Call.{Call}
use Rattle.ns_calls.specs.declared.call.Entry.{Entry}
use Rattle.ns_calls.specs.Shards.{shard_of_call}
use Rattle.ns_recorded.specs.Recorded.{matters}
use Rattle.ns_acts.specs.declared.step.Act.{Act}
use Rattle.ns_acts.specs.declared.step.Step.{Step}
use Rattle.ns_acts.specs.Calls.{call_of}
use Rattle.ns_shard.specs.State.{State, answer_in}
use Rattle.ns_steps.specs.StepLines.{step}
use Rattle.ns_resume.specs.Resumed.{IsNoStep, DoesNotFit}
use Rattle.ns_resume.specs.declared.fault.RecordFault.{RecordFault}
use Rattle.ns_resume.specs.declared.fault.RecordFault.TheVariants.{NoStep, NoFit}

-- the fault names no step line
abbrev pub NamesNoLine : RecordFault → Type 0
NamesNoLine (NoStep n) = ⊥
NamesNoLine (NoFit n) = ⊥
NamesNoLine _ = Unit {0}

-- where it names one, the line of this number makes no call
abbrev pub MakesNoCall : List ℕ → ℕ → RecordFault → Type 0
MakesNoCall line number (NoStep n) = (n ≡ number) × (step line ≡ None)
MakesNoCall line number (NoFit n) = (n ≡ number) × ((act : Act) × (step line ≡ Some act) × (result_ok (call_of act) ≡ None))
MakesNoCall line number _ = Unit {0}

-- where it names one, no later answer rests on the call of the line of this number
abbrev pub DoesNotMatter : List State → Call → ℕ → RecordFault → Type 0
DoesNotMatter shards c number (NoStep n) = ⊥
DoesNotMatter shards c number (NoFit n) = (n ≡ number) × ((s : State) × (slice_get shards (shard_of_call c) ≡ Some s) × (matters (answer_in s c).reply ≡ false))
DoesNotMatter shards c number _ = Unit {0}

-- where it names one, the line of this number is not run after these steps
abbrev pub RefusesLine : Network → (ℕ → List Entry) → List Step → List ℕ → ℕ → RecordFault → Type 0
RefusesLine net starts steps line number (NoStep n) = (n ≡ number) × IsNoStep steps line
RefusesLine net starts steps line number (NoFit n) = (n ≡ number) × DoesNotFit net starts steps line
RefusesLine net starts steps line number _ = Unit {0}
