-- What a run leaves in each shard is a legal history of the calls that reached it.
use Rattle.ns_shard.proofs.Maps.{find-map}
use Rattle.ns_calls.specs.History.{last_nonce, greatest_nonce}
use Rattle.ns_roster.proofs.DeviceLemmas.{device-found}
use Rattle.ns_roster.specs.Closing.{devices_with}
use Rattle.ns_roster.specs.Valid.{IsRoster}
use Rattle.ns_roster.specs.declared.Device.{Device}
use Rattle.ns_types.specs.Identity.{shard_of}
use Rattle.ns_types.specs.declared.identity.DevNonce.{DevNonce}
use Rattle.std.specs.Option.{option_and_then}
use Rattle.std.specs.Prelude.{Contains}
use Rattle.std.proofs.Common.{◌≡◌, ℕ, ◌<◌, List, [], ◌∷◌, ◌++◌, length, map, filter, slice_get, take, drop, ◌≤◌, Some, Result, Ok, Err, refl, sym, ap, ◌∙◌, subst, arith, eqb, None, Option, option_map, find, ◌==◌, Bool, true}
use Rattle.std.specs.List.{AllByRecursion}
use Rattle.std.proofs.lemmas.List.{append_assoc, append-nil, map_push, take_all, drop_all}
use Rattle.std.proofs.lemmas.Option.{slice_get_within, same_Some}
use Rattle.ns_roster.specs.Network.{Network, device}
use Rattle.ns_calls.specs.declared.call.Call.{Call}
use Rattle.ns_calls.specs.declared.call.Entry.{Entry}
use Rattle.ns_calls.specs.Legal.{IsHistory, with_call}
use Rattle.ns_calls.specs.Shards.{shard_of_call}
use Rattle.ns_calls.specs.Steps.{Refusal, link, view}
use Rattle.ns_calls.specs.Runs.{history_after}
use Rattle.ns_calls.specs.Laws.{NoncesRise, CountersRise, WindowsOpenOnce}
use Rattle.ns_calls.specs.Headline.{AcksRise, NoncesAreWithin, AreBelow}
use Rattle.ns_calls.proofs.LegalLemmas.{history_none, history_more}
use Rattle.ns_calls.proofs.JoinLemmas.{nonces_rise, nonces_within, later_above}
use Rattle.ns_calls.proofs.UplinkLemmas.{counters_rise}
use Rattle.ns_calls.proofs.WindowLemmas.{windows_open_once}
use Rattle.ns_calls.proofs.AckLemmas.{acks_rise}
use Rattle.ns_calls.proofs.OutLemmas.{goes_out}
use Rattle.ns_acts.specs.declared.step.Step.{Step}
use Rattle.ns_runs.specs.declared.run.Taken.{Taken}
use Rattle.ns_shard.specs.State.{State}
use Rattle.ns_acts.specs.Calls.{call_of}
use Rattle.ns_runs.specs.Taken.{calls_of, OfEach, HandsOut}
use Rattle.ns_runs.specs.KeptSteps.{AreHistories}
use Rattle.ns_runs.specs.Steps.{shard_history_from, no_starts, shard_history, call_taken, all_taken, state_after, AreAfter}
use Rattle.ns_runs.specs.NextRun.{greatest_after, closing_roster, accepted_by}
use Rattle.ns_calls.proofs.Lists.{All-weaker}
use Rattle.std.proofs.lemmas.Bool.{eqb-true}
use Rattle.std.proofs.lemmas.List.Elements.{filter_passes, recursion_from_All}

-- calls of one shard lengthen a history of it
is_history : (net : Network) (shard : ℕ) (before : List Entry) (calls : List Call) → AllByRecursion (λ c. shard_of_call c ≡ shard) calls → IsHistory net shard before → IsHistory net shard (history_after net before calls)
is_history net shard before [] own is = is
is_history net shard before (c ∷ calls) own is = is_history net shard (with_call net before (length before) c) calls own.1 (history_more net shard before c own.0 is)

-- the calls in a history are those that made it
calls_in : (net : Network) (before : List Entry) (calls : List Call) → map (λ e. e.call) (history_after net before calls) ≡ map (λ e. e.call) before ++ calls
calls_in net before [] = rw append-nil refl
calls_in net before (call ∷ calls) = rw (map_push, append_assoc) at (calls_in net (with_call net before (length before) call) calls)

own_calls : (shard : ℕ) (calls : List Call) → AllByRecursion (λ c. shard_of_call c ≡ shard) (filter (λ c. eqb (shard_of_call c) shard) calls)
own_calls shard calls =
    let own : Call → Bool = λ c. eqb (shard_of_call c) shard in
    All-weaker (λ (c : Call). own c ≡ true) (λ (c : Call). shard_of_call c ≡ shard) (λ c is. eqb-true (shard_of_call c) shard is) (filter own calls) (recursion_from_All (λ (c : Call). own c ≡ true) (filter own calls) (filter_passes own calls))

pub history_from-is : (net : Network) (starts : ℕ → List Entry) → AreHistories net starts → (shard : ℕ) (steps : List Step) → IsHistory net shard (shard_history_from net starts shard steps)
history_from-is net starts are shard steps = is_history net shard (starts shard) (calls_of shard steps) (own_calls shard _) (are shard)

pub no_histories : (net : Network) → AreHistories net no_starts
no_histories net shard = history_none net shard

pub shard_history-is : (net : Network) (shard : ℕ) (steps : List Step) → IsHistory net shard (shard_history net shard steps)
shard_history-is net shard steps = history_from-is net no_starts (no_histories net) shard steps

-- the entries of a shard after steps
pub entries-after : (net : Network) (steps : List Step) (shards : List State) → AreAfter net steps shards → (shard : ℕ) (s : State) → slice_get shards shard ≡ Some s → shard_history net shard steps ≡ s.entries
entries-after net steps shards after shard s at =
    let within : shard < length shards = slice_get_within shards shard s at in
    ap (λ (t : State). t.entries) (same_Some (state_after net shard steps) s (sym (after.each shard (omega (arith, after.sixteen, within))) ∙ at))

of_each : (P : ℕ → List Entry → Type 0) (net : Network) (steps : List Step) (shards : List State) → AreAfter net steps shards → ((shard : ℕ) → P shard (shard_history net shard steps)) → OfEach shards P
of_each P net steps shards after holds shard s at = subst (P shard) (entries-after net steps shards after shard s at) (holds shard)

pub histories-legal : (net : Network) (steps : List Step) (shards : List State) → AreAfter net steps shards → OfEach shards (λ shard h. IsHistory net shard h)
histories-legal net steps shards after = of_each (λ shard h. IsHistory net shard h) net steps shards after (λ shard. shard_history-is net shard steps)

pub histories-calls : (net : Network) (steps : List Step) (shards : List State) → AreAfter net steps shards → OfEach shards (λ shard h. map (λ e. e.call) h ≡ calls_of shard steps)
histories-calls net steps shards after = of_each (λ shard h. map (λ e. e.call) h ≡ calls_of shard steps) net steps shards after (λ shard. calls_in net [] (calls_of shard steps))

pub histories-nonces : (net : Network) (steps : List Step) (shards : List State) → AreAfter net steps shards → OfEach shards (λ shard h. NoncesRise h)
histories-nonces net steps shards after = of_each (λ shard h. NoncesRise h) net steps shards after (λ shard. nonces_rise net _ (shard_history-is net shard steps).legal)

pub histories-counters : (net : Network) (steps : List Step) (shards : List State) → AreAfter net steps shards → OfEach shards (λ shard h. CountersRise h)
histories-counters net steps shards after = of_each (λ shard h. CountersRise h) net steps shards after (λ shard. counters_rise net _ (shard_history-is net shard steps).legal)

pub histories-windows : (net : Network) (steps : List Step) (shards : List State) → AreAfter net steps shards → OfEach shards (λ shard h. WindowsOpenOnce h)
histories-windows net steps shards after = of_each (λ shard h. WindowsOpenOnce h) net steps shards after (λ shard. windows_open_once net _ (shard_history-is net shard steps).legal)

pub histories-acks : (net : Network) (steps : List Step) (shards : List State) → AreAfter net steps shards → OfEach shards (λ shard h. AcksRise h)
histories-acks net steps shards after = of_each (λ shard h. AcksRise h) net steps shards after (λ shard. acks_rise net _ (shard_history-is net shard steps).legal)

-- what comes of a step hands out an uplink exactly at a closing
hands_out : (net : Network) (before : List Step) (r : Result Call Refusal) → HandsOut (call_taken net before r)
hands_out net before (Err (link fault)) = tt
hands_out net before (Err (view fault)) = tt
hands_out net before (Ok c) = (goes_out net (shard_history net (shard_of_call c) before) c (shard_history-is net (shard_of_call c) before).legal).uplink

pub all-hand_out : (net : Network) (before steps : List Step) → AllByRecursion HandsOut (all_taken net before steps)
all-hand_out net before [] = tt
all-hand_out net before (step ∷ steps) = (hands_out net before (call_of step.act), all-hand_out net (before ++ step ∷ []) steps)

-- the shards after all steps
pub after-all : (net : Network) (steps : List Step) (i : ℕ) (shards : List State) → length steps ≤ i → AreAfter net (take i steps) shards → AreAfter net steps shards
after-all net steps i shards whole after = subst (λ ss. AreAfter net ss shards) (take_all i steps whole) after

pub told-all : (net : Network) (steps : List Step) (i : ℕ) (taken : List Taken) → length steps ≤ i → taken ++ all_taken net (take i steps) (drop i steps) ≡ all_taken net [] steps → taken ≡ all_taken net [] steps
told-all net steps i taken whole told =
    sym (ap (λ rest. taken ++ all_taken net (take i steps) rest) (drop_all i steps whole) ∙ append-nil taken) ∙ told

pub histories-within : (net : Network) (steps : List Step) (shards : List State) → AreAfter net steps shards → OfEach shards (λ shard h. NoncesAreWithin net h)
histories-within net steps shards after = of_each (λ shard h. NoncesAreWithin net h) net steps shards after (λ shard. nonces_within net _ (shard_history-is net shard steps).legal)

-- ---- two runs

-- the nonce of a number
nonce_of : ℕ → DevNonce
nonce_of n = record { 0 = n }

same_number : (o : Option ℕ) → option_map (λ (n : DevNonce). n.0) (option_map nonce_of o) ≡ o
unfolding nonce_of
same_number None = refl
same_number (Some n) = refl

-- the devices with the nonces that f gives
with_each : (f : Device → Option DevNonce) (ds : List Device) → devices_with ds (map f ds) ≡ map (λ (d : Device). record d { last_nonce = f d }) ds
with_each f [] = refl
with_each f (d ∷ ds) = ap (λ es. (record d { last_nonce = f d }) ∷ es) (with_each f ds)

-- the last nonce of a device in the closing roster is its greatest after the run
closing-last : (net : Network) → IsRoster net → (steps : List Step) (d : Device) → Contains net.devices d
    → last_nonce (closing_roster net steps) d.eui ≡ greatest_nonce net (shard_history net (shard_of d.eui) steps) d.eui
unfolding nonce_of
closing-last net valid steps d held =
    let f : Device → Option DevNonce = λ x. option_map nonce_of (greatest_after net steps x.eui) in
    let g : Device → Device = λ x. record x { last_nonce = f x } in
    let found : device net d.eui ≡ Some d = device-found net valid d.eui d (held, refl) in
    let there : device (closing_roster net steps) d.eui ≡ Some (g d) =
    ap (find (λ (x : Device). x.eui.0 == d.eui.0)) (with_each f net.devices) ∙ (find-map g (λ (x : Device). x.eui.0 == d.eui.0) net.devices ∙ ap (option_map g) found) in
    ap (option_and_then (λ (x : Device). option_map (λ (n : DevNonce). n.0) x.last_nonce)) there
    ∙ (same_number (greatest_after net steps d.eui)
    ∙ ap (option_and_then (λ (x : Device). greatest_nonce net (shard_history net (shard_of d.eui) steps) d.eui)) found)

pub next_above : (net : Network) → IsRoster net → (first second : List Step) (d : Device) → Contains net.devices d
    → AreBelow (accepted_by net first d.eui) (accepted_by (closing_roster net first) second d.eui)
next_above net valid first second d held =
    let shard : ℕ = shard_of d.eui in
    later_above net (closing_roster net first) (shard_history net shard first) (shard_history (closing_roster net first) shard second)
    (shard_history-is net shard first).legal (shard_history-is (closing_roster net first) shard second).legal d.eui (closing-last net valid first d held)
