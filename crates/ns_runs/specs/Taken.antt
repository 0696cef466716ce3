-- The calls that the steps of a run make, and what it hands out.
use Rattle.std.specs.Prelude.{◌≡◌, ℕ, ◌≤◌, ◌==◌, Bool, false, List, take, filter, filter_map, count_by, slice_get, Some, IfSome, is_some}
use Rattle.std.specs.Result.{result_ok}
use Rattle.std.specs.Option.{option_map_or}
use Rattle.ns_types.specs.declared.identity.WindowName.{WindowName}
use Rattle.ns_types.specs.Identity.{same_uplink}
use Rattle.ns_calls.specs.declared.call.Call.{Call}
use Rattle.ns_calls.specs.declared.call.Call.TheVariants as call
use Rattle.ns_calls.specs.declared.call.Entry.{Entry}
use Rattle.ns_calls.specs.declared.answer.Answer.{Answer}
use Rattle.ns_calls.specs.declared.answer.Uplink.{Uplink}
use Rattle.ns_calls.specs.Out.{answer}
use Rattle.ns_roster.specs.Network.{Network}
use Rattle.ns_calls.specs.Shards.{shard_of_call}
use Rattle.ns_calls.specs.Laws.{hands_out_uplink}
use Rattle.ns_calls.specs.Open.{HasJustItsCopies}
use Rattle.ns_acts.specs.declared.step.Step.{Step}
use Rattle.ns_acts.specs.Calls.{call_of}
use Rattle.ns_runs.specs.declared.run.Taken.{Taken}
use Rattle.ns_runs.specs.declared.run.Taken.TheVariants.{Made}
use Rattle.ns_shard.specs.State.{State}

-- the calls that steps send to a shard, in order
abbrev pub calls_of : ℕ → List Step → List Call
calls_of shard steps = filter (λ c. shard_of_call c == shard) (filter_map (λ step. result_ok (call_of step.act)) steps)

-- P holds of the entries of each shard, by its number
abbrev pub OfEach : List State → (ℕ → List Entry → Type 0) → Type 0
OfEach shards P = (shard : ℕ) (s : State) → slice_get shards shard ≡ Some s → P shard s.entries

-- an uplink goes out exactly with the closing of a first window
abbrev pub HandsOut : Taken → Type 0
HandsOut (Made shard number a) = is_some a.uplink ≡ hands_out_uplink a.reply
HandsOut _ = Unit {0}

-- The entry of this number in this shard closes the uplink's window, and the uplink has just its copies: those of the first 16
-- hearings of its frame, from the window's opening to that closing.
pub record HasCopiesAt (shards : List State) (shard number : ℕ) (u : Uplink) : Type 0 where
  pub state : State
  pub of_shard : slice_get shards shard ≡ Some state
  pub entry : Entry
  pub at : slice_get state.entries number ≡ Some entry
  pub closing : entry.call ≡ call.Close u.window
  pub copies : HasJustItsCopies (take number state.entries) u

-- the answer is that of the entry of this number in this shard, after the entries before it
pub record IsOfEntry (net : Network) (shards : List State) (shard number : ℕ) (a : Answer) : Type 0 where
  pub state : State
  pub of_shard : slice_get shards shard ≡ Some state
  pub entry : Entry
  pub at : slice_get state.entries number ≡ Some entry
  pub reply : entry.reply ≡ a.reply
  pub is : a ≡ answer net (take number state.entries) entry.call

-- so is an answer, if any
abbrev pub IsOfItsEntry : Network → List State → Taken → Type 0
IsOfItsEntry net shards (Made shard number a) = IsOfEntry net shards shard number a
IsOfItsEntry net shards _ = Unit {0}

-- the uplink that goes out, if any, has just its copies
abbrev pub HasCopies : List State → Taken → Type 0
HasCopies shards (Made shard number a) = IfSome a.uplink (HasCopiesAt shards shard number)
HasCopies shards _ = Unit {0}

-- whether an uplink goes out that is of the uplink of this window
abbrev pub hands_out : WindowName → Taken → Bool
hands_out w (Made shard number a) = option_map_or (λ u. same_uplink u.window w) a.uplink false
hands_out w _ = false

-- of the uplinks that go out no two are of one counter of a session
abbrev pub AreHandedOutOnce : List Taken → Type 0
AreHandedOutOnce taken = (w : WindowName) → count_by (hands_out w) taken ≤ 1
