-- The whole promise of a run of steps on one thread.
use Rattle.std.specs.Prelude.{◌≡◌, ℕ, Bool, false, List, [], length, map, slice_get, Option, Some}
use Rattle.std.specs.List.{AllByRecursion}
use Rattle.ns_types.specs.declared.identity.DevEui.{DevEui}
use Rattle.ns_types.specs.Identity.{shard_count}
use Rattle.ns_roster.specs.Network.{Network}
use Rattle.ns_calls.specs.Legal.{IsHistory}
use Rattle.ns_calls.specs.Laws.{NoncesRise, CountersRise, WindowsOpenOnce}
use Rattle.ns_calls.specs.Headline.{AcksRise, NoncesAreWithin}
use Rattle.ns_acts.specs.declared.step.Step.{Step}
use Rattle.ns_shard.specs.State.{State, Keeps}
use Rattle.ns_runs.specs.declared.run.Taken.{Taken}
use Rattle.ns_runs.specs.KeptSteps.{AreKeptAfter}
use Rattle.ns_runs.specs.NextRun.{greatest_among, greatest_after}
use Rattle.ns_runs.specs.Steps.{all_taken, AreAfter}
use Rattle.ns_runs.specs.Taken.{calls_of, OfEach, HandsOut, HasCopies, IsOfItsEntry, AreHandedOutOnce}
use Rattle.ns_runs.specs.Lines.{steps_in, told_of}

-- Of these steps this came, one after the other, and these are the sixteen shards with their whole histories. Each history is legal,
-- numbered from 0, and has one entry for each call that reached its shard, in order; each answer is that of its entry. Accepted nonces of a
-- device, and counters and acknowledgement numbers of a session, strictly rise. The window of each round of an uplink opens and closes at
-- most once; an uplink goes out at the closing of its first window alone, at most once, with just its copies.
pub record IsRun (net : Network) (steps : List Step) (taken : List Taken) (whole : List State) : Type 0 where
  pub all : taken ≡ all_taken net [] steps
  pub shards : AreAfter net steps whole
  pub sixteen : length whole ≡ shard_count
  pub histories : OfEach whole (λ shard h. IsHistory net shard h)
  pub calls : OfEach whole (λ shard h. map (λ e. e.call) h ≡ calls_of shard steps)
  pub answers : AllByRecursion (IsOfItsEntry net whole) taken
  pub nonces_rise : OfEach whole (λ shard h. NoncesRise h)
  pub counters_rise : OfEach whole (λ shard h. CountersRise h)
  pub acks_rise : OfEach whole (λ shard h. AcksRise h)
  pub uplinks : AllByRecursion HandsOut taken
  pub windows_open_once : OfEach whole (λ shard h. WindowsOpenOnce h)
  pub nonces_within : OfEach whole (λ shard h. NoncesAreWithin net h)
  pub copies : AllByRecursion (HasCopies whole) taken
  pub handed_out_once : AreHandedOutOnce taken

-- the shards keep what trims leave of these histories
abbrev pub AreKeptOf : List State → List State → Type 0
AreKeptOf whole shards = (shard : ℕ) (w s : State) → slice_get whole shard ≡ Some w → slice_get shards shard ≡ Some s → Keeps w.entries s

-- The run of the steps of these lines: what came of each line, and the shards after them, which have their whole histories where nothing
-- trims.
pub record HasRun (net : Network) (trims : Bool) (lines : List (Option Step)) (told : List (Option Taken)) (shards : List State) : Type 0 where
  pub taken : List Taken
  pub in_lines : told ≡ told_of lines taken
  pub whole : List State
  pub run : IsRun net (steps_in lines) taken whole
  pub kept : AreKeptOf whole shards
  pub after : AreKeptAfter net (steps_in lines) shards
  pub greatest : (eui : DevEui) → greatest_among shards eui ≡ greatest_after net (steps_in lines) eui
  pub untrimmed : trims ≡ false → IsRun net (steps_in lines) taken shards
