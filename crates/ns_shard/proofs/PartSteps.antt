-- What comes of a call by the devices and windows that agree with the entries is what comes of it by the entries, and they agree after it.
use Rattle.std.proofs.Common.{◌≡◌, ◌==◌, ℕ, Bool, false, cond, List, [], ◌∷◌, length, map, Option, None, Some, option_map, refl, sym, ap, ◌∙◌, arith, inl, inr, not, ◌++◌, filter, option_to_list, IfSome, subst}
use Rattle.std.specs.Prelude.{Contains}
use Rattle.std.specs.Option.{option_map_or, option_and_then}
use Rattle.std.proofs.lemmas.Bool.Decides.{nat_tests}
use Rattle.ns_types.specs.declared.identity.DevEui.{DevEui}
use Rattle.ns_types.specs.declared.identity.DevNonce.{DevNonce}
use Rattle.ns_types.specs.declared.heard.Heard.{Heard}
use Rattle.ns_types.specs.declared.ticket.Ticket.{Ticket}
use Rattle.ns_types.specs.Identity.{shard_of}
use Rattle.ns_types.specs.Ticket.{dev_eui, join_eui}
use Rattle.ns_roster.specs.declared.Device.{Device}
use Rattle.ns_roster.specs.Network.{Network, device, is_known, has_join_eui}
use Rattle.ns_roster.specs.Valid.{IsRoster}
use Rattle.ns_roster.proofs.DeviceLemmas.{is_known-by_device, found-device, device-found}
use Rattle.ns_calls.specs.declared.call.Call.{Call}
use Rattle.ns_calls.specs.declared.call.Call.TheVariants as call
use Rattle.ns_calls.specs.declared.call.Reply.{Reply}
use Rattle.ns_calls.specs.declared.call.Reply.TheVariants as reply
use Rattle.ns_calls.specs.declared.call.Entry.{Entry}
use Rattle.ns_calls.specs.declared.answer.Answer.{Answer}
use Rattle.ns_calls.specs.Entries.{same_device, closed, opened}
use Rattle.ns_calls.specs.History.{last_nonce, copied}
use Rattle.ns_calls.specs.Reply.{reply_to, reply_to_join, JoinFacts, join_facts, join_rule}
use Rattle.ns_calls.specs.Legal.{entry_for, with_call, IsLegal}
use Rattle.ns_calls.proofs.LocalLemmas.{bool_tells}
use Rattle.ns_calls.proofs.LegalLemmas.{history_none, history_more}
use Rattle.ns_calls.proofs.KeyLemmas.{sessions_have_joins}
use Rattle.ns_sessions.specs.Record.{no_joins, device_record, join_decision}
use Rattle.ns_sessions.specs.Laws.{OthersStay, JoinsAgree, concerns, join_decision_reply}
use Rattle.ns_windows.specs.declared.window.Window.{Window}
use Rattle.ns_devices.specs.declared.own.Own.{Own}
use Rattle.ns_shard.specs.Tables.{own_in, devices_in}
use Rattle.ns_devices.specs.Devices.{devices_of, own, joinless, is_own, own_of, with_state, after_join, with_own_join, with_join_of}
use Rattle.ns_shard.specs.declared.event.Ended.{Ended}
use Rattle.ns_shard.specs.declared.event.Event.TheVariants as event
use Rattle.ns_shard.specs.State.{quiet}
use Rattle.ns_shard.specs.Private.Sending.{answer_of}
use Rattle.ns_shard.specs.Private.Reaction.{own_join_reply, shard_join_reply}
use Rattle.ns_shard.specs.Private.Parts.{Agrees}
use Rattle.ns_shard.proofs.Places.{change_first-same, change_first-stays}
use Rattle.ns_shard.proofs.Roster.{own-found, members}
use Rattle.ns_shard.proofs.DeviceSteps.{OthersSame, devices-changed, devices-same}
use Rattle.ns_shard.proofs.WindowSteps.{windows-quiet, WindowsHaveJoins}
use Rattle.ns_calls.proofs.Says.{join-says}
use Rattle.ns_devices.proofs.Positions.{change-nothing}
use Rattle.std.specs.List.{AllByRecursion}
use Rattle.ns_calls.proofs.Induction.{legal_induction}
use Rattle.ns_calls.proofs.Lists.{All-after, All-filter, All-weaker}
use Rattle.ns_shard.proofs.Maps.{map-same}

-- ---- no entries

pub agrees-new : (net : Network) (index : ℕ) → OthersStay → IsRoster net → Agrees net index [] (map (joinless net) (devices_of net index)) []
agrees-new net index stay valid = record {
  valid = valid;
  history = history_none net index;
  by_device =
      map-same (joinless net) (own_in net []) (devices_of net index)
      (All-weaker (Contains net.devices) (λ (d : Device). joinless net d ≡ own_in net [] d) same (devices_of net index) (All-filter (Contains net.devices) (λ (d : Device). shard_of d.eui == index) net.devices (members net)));
  by_window = refl;
}
  where
    -- the device that is found at the EUI of one of the devices is that one
    named : (d : Device) → Contains net.devices d → option_map (λ (n : DevNonce). n.0) d.last_nonce ≡ last_nonce net d.eui
    named d held = sym (ap (option_and_then (λ (x : Device). option_map (λ (n : DevNonce). n.0) x.last_nonce)) (device-found net valid d.eui d (held, refl)))

    same : (d : Device) → Contains net.devices d → joinless net d ≡ own_in net [] d
    same d held = ap (λ r. own net r d) (ap no_joins (named d held) ∙ sym (stay.none net d.eui))

-- ---- any call

-- the answer where something is ended, or else this reply
abbrev pub ended_or : Network → Reply → Option Ended → Answer
ended_or net r what = option_map_or (λ x. answer_of net (event.Ended x)) what (quiet r)

pub joined : (net : Network) (index : ℕ) (h : List Entry) (devices : List Own) (windows : List Window) → Agrees net index h devices windows → WindowsHaveJoins h
joined net index h devices windows agrees = (sessions_have_joins net h agrees.history.legal).of_windows

-- what is said of the devices that a call does not concern stays
pub others-stay : (net : Network) (h : List Entry) (number : ℕ) (c : Call) (eui : DevEui) → OthersStay → ((other : DevEui) → same_device other eui ≡ false → concerns other c (reply_to net h c) ≡ false) → OthersSame net (with_call net h number c) h eui
others-stay net h number c eui stay apart other differs = stay.others net h (entry_for net h number c) other (apart other differs)

-- what is open is known, where whatever opens is known
pub all-open : {X : Type 0} (net : Network) (Known : X → Type 0) (open_in : List Entry → List X) (ends : X → Entry → Bool) (new : Call → Reply → Option X) → AllByRecursion Known (open_in [])
    → ((h : List Entry) (e : Entry) → open_in (h ++ e ∷ []) ≡ filter (λ x. not (ends x e)) (open_in h) ++ option_to_list (new e.call e.reply))
    → ((h : List Entry) (c : Call) → IfSome (new c (reply_to net h c)) Known) → (h : List Entry) → IsLegal net h → AllByRecursion Known (open_in h)
all-open net Known open_in ends new none push known h legal =
    legal_induction net (λ g. AllByRecursion Known (open_in g)) none (λ g number c ok all.
    let e = entry_for net g number c in
    subst (AllByRecursion Known) (sym (push g e)) (All-after Known (λ x. not (ends x e)) (open_in g) (new c (reply_to net g c)) all (known g c))) h legal

-- ---- joins

pub join-unknown : (net : Network) (h : List Entry) (t : Ticket) → is_known net (dev_eui t) (join_eui t) ≡ false → reply_to_join net h t ≡ reply.NoDevice
join-unknown net h t unknown = ap (λ b. let facts : JoinFacts = record (join_facts net h t) { known = b } in join_rule t facts) unknown

pub join-replied : (net : Network) (index : ℕ) (h : List Entry) (devices : List Own) (windows : List Window) (t : Ticket) → Agrees net index h devices windows → JoinsAgree net h → shard_of (dev_eui t) ≡ index →
    shard_join_reply devices t ≡ reply_to_join net h t
join-replied net index h devices windows t agrees law mine =
    ap (λ ds. shard_join_reply ds t) agrees.by_device ∙ (ap replied (own-found net index h (dev_eui t) mine) ∙ step (device net (dev_eui t)) refl)
  where
    replied : Option Own → Reply
    replied o = option_map_or (own_join_reply t) o reply.NoDevice

    known_is : is_known net (dev_eui t) (join_eui t) ≡ has_join_eui (join_eui t) (device net (dev_eui t))
    known_is = is_known-by_device net agrees.valid (dev_eui t) (join_eui t)

    step : (o : Option Device) → device net (dev_eui t) ≡ o → replied (option_map (own_in net h) o) ≡ reply_to_join net h t
    step None is = sym (join-unknown net h t (known_is ∙ ap (has_join_eui (join_eui t)) is))
    step (Some d) is =
        let asks = λ (e : DevEui). join_decision_reply t (join_decision (device_record net h e) t) in
        let by = λ (b : Bool). cond b (asks d.eui) reply.NoDevice in
        elim (bool_tells (d.join_eui.0 == (join_eui t).0)) [
          | inl same ↦ ap by same ∙ (ap asks (found-device net (dev_eui t) d is).1 ∙ law.replies t (known_is ∙ (ap (has_join_eui (join_eui t)) is ∙ same)))
          | inr differs ↦ ap by differs ∙ sym (join-unknown net h t (known_is ∙ (ap (has_join_eui (join_eui t)) is ∙ differs)))
        ]

pub same_device-false : (d e : DevEui) → same_device d e ≡ false → same_device e d ≡ false
same_device-false d e differs = grind (arith, nat_tests)

concerns-join : (other : DevEui) (t : Ticket) (heard : Heard) (r : Reply) → same_device other (dev_eui t) ≡ false → concerns other (call.Join t heard) r ≡ false
concerns-join other t heard (reply.Ask asked) differs = same_device-false other (dev_eui t) differs
concerns-join other t heard (reply.JoinCopied place) differs = same_device-false other (dev_eui t) differs
concerns-join other t heard _ differs = refl

pub agrees-join : (net : Network) (index : ℕ) (h : List Entry) (devices : List Own) (windows : List Window) (t : Ticket) (heard : Heard) → Agrees net index h devices windows → OthersStay → JoinsAgree net h → shard_of (dev_eui t) ≡ index →
    Agrees net index (with_call net h (length h) (call.Join t heard)) (with_join_of t heard devices) windows
agrees-join net index h devices windows t heard agrees stay law mine = record {
  valid = agrees.valid;
  history = history_more net index h (call.Join t heard) mine agrees.history;
  by_device = ap (with_join_of t heard) agrees.by_device ∙ step (device net (dev_eui t)) refl;
  by_window = agrees.by_window ∙ sym (windows-quiet h (entry_for net h (length h) (call.Join t heard)) (joined net index h devices windows agrees) (join-says (λ s. closed s ≡ None) t heard refl refl refl (reply_to net h (call.Join t heard))) (join-says (λ s. opened s ≡ None) t heard refl refl refl (reply_to net h (call.Join t heard))) (join-says (λ s. copied s ≡ None) t heard refl refl refl (reply_to net h (call.Join t heard))));
}
  where
    now : List Entry
    now = with_call net h (length h) (call.Join t heard)

    f : Own → Own
    f = with_own_join t heard

    found : own_of (dev_eui t) (devices_in net index h) ≡ option_map (own_in net h) (device net (dev_eui t))
    found = own-found net index h (dev_eui t) mine

    known_is : is_known net (dev_eui t) (join_eui t) ≡ has_join_eui (join_eui t) (device net (dev_eui t))
    known_is = is_known-by_device net agrees.valid (dev_eui t) (join_eui t)

    -- of an unknown device nothing changes
    stays : is_known net (dev_eui t) (join_eui t) ≡ false → devices_in net index h ≡ devices_in net index now
    stays unknown =
        sym (devices-same net index h now (λ other. stay.others net h (entry_for net h (length h) (call.Join t heard)) other
        (ap (λ (r : Reply). concerns other (call.Join t heard) r) (join-unknown net h t unknown))))

    step : (o : Option Device) → device net (dev_eui t) ≡ o → with_join_of t heard (devices_in net index h) ≡ devices_in net index now
    step None is =
        sym (change-nothing (is_own (dev_eui t)) f (devices_in net index h) (found ∙ ap (option_map (own_in net h)) is))
        ∙ stays (known_is ∙ ap (has_join_eui (join_eui t)) is)
    step (Some d) is =
        let o : Own = own_in net h d in
        let here : own_of (dev_eui t) (devices_in net index h) ≡ Some o = found ∙ ap (option_map (own_in net h)) is in
        let by = λ (b : Bool). cond b (with_state (after_join t heard) o) o in
        elim (bool_tells (d.join_eui.0 == (join_eui t).0)) [
          | inl same ↦
              change_first-same (is_own (dev_eui t)) f (with_state (after_join t heard)) (devices_in net index h) o here (ap by same)
              ∙ sym (devices-changed net index h now (dev_eui t) (after_join t heard) agrees.valid
              (others-stay net h (length h) (call.Join t heard) (dev_eui t) stay (λ other differs. concerns-join other t heard (reply_to_join net h t) differs))
              (sym (law.records agrees.history.legal (length h) t heard (known_is ∙ (ap (has_join_eui (join_eui t)) is ∙ same)))))
          | inr differs ↦
              change_first-stays (is_own (dev_eui t)) f (devices_in net index h) o here (ap by differs)
              ∙ stays (known_is ∙ (ap (has_join_eui (join_eui t)) is ∙ differs))
        ]
