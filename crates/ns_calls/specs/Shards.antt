-- The shard of a call, the entries of a shard, and merges of lists.
use Rattle.std.specs.Prelude.{◌≡◌, ℕ, List, [], ◌∷◌, Option, Some, None, IfSome, slice_get, slice_set, filter, ◌==◌}
use Rattle.std.specs.List.{AllByRecursion}
use Rattle.ns_types.specs.declared.identity.DevEui.{DevEui}
use Rattle.ns_types.specs.Identity.{shard_of, shard_of_addr}
use Rattle.ns_types.specs.Ticket.{dev_eui}
use Rattle.ns_views.specs.Frame.{data_fields}
use Rattle.ns_calls.specs.declared.call.Call.{Call}
use Rattle.ns_calls.specs.declared.call.Call.TheVariants.{Uplink, Join, JoinReply, Close}
use Rattle.ns_calls.specs.declared.call.Reply.{Reply}
use Rattle.ns_calls.specs.declared.call.Reply.TheVariants as reply
use Rattle.ns_calls.specs.declared.call.Entry.{Entry}

-- the shard of a call: that of its device, which stands in its address too
abbrev pub shard_of_call : Call → ℕ
shard_of_call (Uplink frame heard) = shard_of_addr (record { 0 = (data_fields frame).addr })
shard_of_call (Join ticket heard) = shard_of (dev_eui ticket)
shard_of_call (JoinReply ticket outcome) = shard_of (dev_eui ticket)
shard_of_call (Close window) = shard_of window.eui

-- the entries of one shard
abbrev pub of_shard : ℕ → List Entry → List Entry
of_shard k h = filter (λ e. shard_of_call e.call == k) h

-- the device that a reply names
abbrev pub device_in : Reply → Option DevEui
device_in (reply.Opened window) = Some window.eui
device_in (reply.Copied window place) = Some window.eui
device_in (reply.Crowded window) = Some window.eui
device_in (reply.Old eui session fcnt) = Some eui
device_in (reply.Busy eui) = Some eui
device_in (reply.Ask ticket) = Some (dev_eui ticket)
device_in (reply.Accepted eui session addr) = Some eui
device_in (reply.Closed window ack) = Some window.eui
device_in (reply.Again window) = Some window.eui
device_in _ = None

-- the reply to a call names a device of the call's shard, or none
abbrev pub NamesOwnDevice : Call → Reply → Type 0
NamesOwnDevice call reply = IfSome (device_in reply) (λ eui. shard_of eui ≡ shard_of_call call)

-- the whole list has each part's elements in that part's order, and nothing else
abbrev pub IsMerge : {X : Type 0} → List (List X) → List X → Type 0
IsMerge {X} parts [] = (k : ℕ) (part : List X) → slice_get parts k ≡ Some part → part ≡ []
IsMerge {X} parts (x ∷ xs) = (k : ℕ) × (rest : List X) × (slice_get parts k ≡ Some (x ∷ rest)) × IsMerge (slice_set parts k rest) xs

-- part k has only elements of shard k
abbrev pub AreOfTheirShard : {X : Type 0} → (X → ℕ) → List (List X) → Type 0
AreOfTheirShard {X} shard parts = (k : ℕ) (part : List X) → slice_get parts k ≡ Some part → AllByRecursion (λ x. shard x ≡ k) part
