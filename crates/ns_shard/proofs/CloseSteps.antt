-- What comes of a closing by the devices and windows that agree with the entries, and that they agree after it.
use Rattle.std.proofs.Common.{◌≡◌, ℕ, ◌^◌, ◌==◌, Bool, true, false, cond, nat_lt, List, [], ◌∷◌, ◌++◌, length, find, Option, None, Some, IfSome, option_map, refl, sym, ap, ap₂, subst, ◌∙◌, inl, inr}
use Rattle.std.specs.Prelude.{IsSome, Contains}
use Rattle.std.specs.List.{AllByRecursion}
use Rattle.std.specs.Option.{option_and_then}
use Rattle.ns_types.specs.declared.identity.DevEui.{DevEui}
use Rattle.ns_types.specs.declared.identity.WindowName.{WindowName}
use Rattle.ns_types.specs.Cases.{first_case, when}
use Rattle.ns_types.specs.Identity.{shard_of, same_window, is_first}
use Rattle.ns_views.specs.Frame.{data_fields, is_confirmed}
use Rattle.ns_secure.specs.Counter.{above, below}
use Rattle.ns_roster.specs.declared.Device.{Device}
use Rattle.ns_roster.specs.Network.{Network, device, device_addr}
use Rattle.ns_roster.specs.Valid.{IsRoster}
use Rattle.ns_roster.proofs.DeviceLemmas.{device-found, found-device}
use Rattle.ns_calls.specs.declared.call.JoinAns.{JoinAns}
use Rattle.ns_calls.specs.declared.call.Call.{Call}
use Rattle.ns_calls.specs.declared.call.Call.TheVariants as call
use Rattle.ns_calls.specs.declared.call.Reply.{Reply}
use Rattle.ns_calls.specs.declared.call.Reply.TheVariants as reply
use Rattle.ns_calls.specs.declared.call.Entry.{Entry}
use Rattle.ns_calls.specs.declared.answer.Answer.{Answer}
use Rattle.ns_calls.specs.declared.answer.Uplink.{Uplink}
use Rattle.ns_calls.specs.declared.answer.Downlink.{Downlink}
use Rattle.ns_calls.proofs.Says as history
use Rattle.ns_calls.specs.Entries.{Opening, same_device, closes, open_windows, opened}
use Rattle.ns_calls.specs.History.{open_window, session_join, live, greatest_counter, copied}
use Rattle.ns_calls.specs.Reply as plain
use Rattle.ns_calls.specs.Reply.{reply_to, reply_to_close, ack_number, Fit, fit_of, fitting_counter, devices_at, first_fit}
use Rattle.ns_calls.specs.Out.{answer, uplink_of, first_uplink_of, uplink_out, downlink_out, ack_downlink}
use Rattle.ns_calls.specs.Legal.{IsLegal, entry_for, with_call}
use Rattle.ns_calls.proofs.LocalLemmas.{bool_tells}
use Rattle.ns_calls.proofs.Lists.{All-weaker, find-has, first-gives, first-gives_of, IfSome-weaker, at_some, All-passed}
use Rattle.ns_calls.proofs.PushLemmas.{open_windows-push}
use Rattle.ns_calls.proofs.LegalLemmas.{history_more}
use Rattle.ns_calls.proofs.UplinkLemmas.{uplink-has}
use Rattle.ns_calls.proofs.NameLemmas.{same_window-eq}
use Rattle.ns_sessions.specs.declared.session.Session.{Session}
use Rattle.ns_sessions.specs.Record.{DeviceRecord, device_record, ack_in, with_ack, session_ack, session_after_ack, change_session}
use Rattle.ns_sessions.specs.Laws.{OthersStay, ClosingsAgree, concerns}
use Rattle.ns_windows.specs.declared.window.Window.{Window}
use Rattle.ns_windows.specs.Windows.{window_named, without}
use Rattle.ns_devices.specs.declared.own.Own.{Own}
use Rattle.ns_shard.specs.Tables.{window_of_opening, windows_in, own_in, devices_in}
use Rattle.ns_devices.specs.Devices.{own_of, with_change_of}
use Rattle.ns_uplinks.specs.Uplinks.{uplink_from, first_uplink_from}
use Rattle.ns_shard.specs.Private.Sending.{ack_from}
use Rattle.ns_shard.specs.Private.Reaction.{ack_of, close_ended, with_closing}
use Rattle.ns_shard.specs.Private.Parts.{Agrees}
use Rattle.ns_shard.proofs.Roster.{own-found, members}
use Rattle.ns_shard.proofs.DeviceSteps.{devices-changed, devices-same}
use Rattle.ns_shard.proofs.WindowSteps.{windows-quiet, windows-closed, windows-named}
use Rattle.ns_shard.proofs.PartSteps.{joined, others-stay, same_device-false, ended_or, all-open}
use Rattle.ns_calls.proofs.Says.{join-says, answer-says, close-says}
use Rattle.ns_shard.proofs.Maps.{some-of}

-- ---- the devices of open windows are the roster's

session_fit-eui : (recover : Option ℕ → ℕ → Option ℕ) (h : List Entry) (frame : List ℕ) (eui : DevEui) (session : ℕ) → IfSome (plain.session_fit recover h frame eui session) (λ f. f.eui ≡ eui)
session_fit-eui recover h frame eui session = step (option_and_then (λ (join : JoinAns). fitting_counter recover frame join.nwk (greatest_counter h eui session)) (session_join h eui session))
  where
    step : (o : Option ℕ) → IfSome (option_map (fit_of eui session) o) (λ f. f.eui ≡ eui)
    step None = tt
    step (Some n) = refl

device_fit-eui : (recover : Option ℕ → ℕ → Option ℕ) (h : List Entry) (frame : List ℕ) (eui : DevEui) → IfSome (plain.device_fit recover h frame eui) (λ f. f.eui ≡ eui)
device_fit-eui recover h frame eui = first-gives (λ (f : Fit). f.eui ≡ eui) (plain.session_fit recover h frame eui) (session_fit-eui recover h frame eui) (live h eui)

-- what fits is of a device of the roster at the frame's address
pub fit-of : (P : DevEui → Type 0) (recover : Option ℕ → ℕ → Option ℕ) (net : Network) (h : List Entry) (frame : List ℕ) → ((d : Device) → Contains net.devices d → ((device_addr net d).0 == (data_fields frame).addr) ≡ true → P d.eui)
    → IfSome (first_fit recover net h frame) (λ f. P f.eui)
fit-of P recover net h frame each =
    first-gives_of Fits (λ (d : Device). plain.device_fit recover h frame d.eui) (devices_at net (data_fields frame).addr)
    (All-weaker (λ (d : Device). Contains net.devices d × (addressed d ≡ true)) (λ (d : Device). IfSome (plain.device_fit recover h frame d.eui) Fits) here (devices_at net (data_fields frame).addr)
    (All-passed (Contains net.devices) addressed net.devices (members net)))
  where
    Fits : Fit → Type 0
    Fits f = P f.eui

    addressed : Device → Bool
    addressed d = (device_addr net d).0 == (data_fields frame).addr

    here : (d : Device) → Contains net.devices d × (addressed d ≡ true) → IfSome (plain.device_fit recover h frame d.eui) Fits
    here d both = IfSome-weaker (λ (f : Fit). f.eui ≡ d.eui) Fits (plain.device_fit recover h frame d.eui) (λ f is. subst P (sym is) (each d both.0 both.1)) (device_fit-eui recover h frame d.eui)

pub fit-known : (recover : Option ℕ → ℕ → Option ℕ) (net : Network) (h : List Entry) (frame : List ℕ) → IsRoster net → IfSome (first_fit recover net h frame) (λ f. IsSome (device net f.eui))
fit-known recover net h frame valid =
    fit-of (λ (e : DevEui). IsSome (device net e)) recover net h frame
    (λ d member at. subst (λ (o : Option Device). IsSome o) (sym (device-found net valid d.eui d (member, refl))) refl)

-- whatever is opened, in any round, is of a device of the roster
opened-known : (net : Network) (h : List Entry) → IsRoster net → (c : Call) → IfSome (history.window_in c (reply_to net h c)) (λ o. IsSome (device net o.window.eui))
opened-known net h valid (call.Join t heard) = join-says (λ s. IfSome (opened s) (λ o. IsSome (device net o.window.eui))) t heard tt tt tt (reply_to net h (call.Join t heard))
opened-known net h valid (call.JoinReply t x) = answer-says (λ s. IfSome (opened s) (λ o. IsSome (device net o.window.eui))) t x (λ n. tt) tt tt (reply_to net h (call.JoinReply t x))
opened-known net h valid (call.Close w) = close-says (λ s. IfSome (opened s) (λ o. IsSome (device net o.window.eui))) w (λ ack. tt) tt (reply_to net h (call.Close w))
opened-known net h valid (call.Uplink frame heard) = uplink-has (λ r. IfSome (history.window_in (call.Uplink frame heard) r) (λ o. IsSome (device net o.window.eui))) net h frame (record {
  copied = λ o is room. tt;
  crowded = λ o is full. tt;
  opened = λ f none is room. at_some (λ (x : Fit). IsSome (device net x.eui)) (first_fit above net h frame) f is (fit-known above net h frame valid);
  again = λ f round none is confirmed next room. at_some (λ (x : Fit). IsSome (device net x.eui)) (first_fit below net h frame) f is (fit-known below net h frame valid);
  busy = λ recover f is. tt;
  old = λ f is. tt;
  none = tt;
})

windows_known : (net : Network) (h : List Entry) → IsRoster net → IsLegal net h → AllByRecursion (λ o. IsSome (device net o.window.eui)) (open_windows h)
windows_known net h valid legal =
    all-open net (λ (o : Opening). IsSome (device net o.window.eui)) open_windows (λ (o : Opening) e. closes o.window e) history.window_in tt open_windows-push (λ g c. opened-known net g valid c) h legal

pub all_both : {X : Type 0} (P Q : X → Type 0) (xs : List X) → AllByRecursion P xs → AllByRecursion Q xs → AllByRecursion (λ x. P x × Q x) xs
all_both P Q [] p q = tt
all_both P Q (x ∷ xs) p q = ((p.0, q.0), all_both P Q xs p.1 q.1)

-- what is known of an open window
open-kept : (net : Network) (index : ℕ) (h : List Entry) (devices : List Own) (windows : List Window) (w : WindowName) (o : Opening) → Agrees net index h devices windows → open_window h w ≡ Some o → (o.window ≡ w) × IsSome (device net o.window.eui) × IsSome (session_join h o.window.eui o.window.session)
open-kept net index h devices windows w o agrees is =
    let Kept : Opening → Type 0 = λ x. IsSome (device net x.window.eui) × IsSome (session_join h x.window.eui x.window.session) in
    let all : AllByRecursion Kept (open_windows h) =
    all_both (λ (x : Opening). IsSome (device net x.window.eui)) (λ (x : Opening). IsSome (session_join h x.window.eui x.window.session)) (open_windows h) (windows_known net h agrees.valid agrees.history.legal) (joined net index h devices windows agrees) in
    let found : Kept o × (same_window o.window w ≡ true) = at_some (λ (x : Opening). Kept x × (same_window x.window w ≡ true)) (open_window h w) o is (find-has Kept (λ (x : Opening). same_window x.window w) (open_windows h) all) in
    (same_window-eq o.window w found.1, found.0.0, found.0.1)

-- ---- what goes out

uplink-same : (h : List Entry) (o : Opening) → IsSome (session_join h o.window.eui o.window.session) → uplink_from (window_of_opening h o) ≡ uplink_of h o
uplink-same h o keyed = let (join, is) = some-of (session_join h o.window.eui o.window.session) keyed in rw is refl

ack-same : (net : Network) (h : List Entry) (o : Opening) (n : ℕ) → IsSome (session_join h o.window.eui o.window.session) → ack_from net (window_of_opening h o) n ≡ ack_downlink net h o n
ack-same net h o n keyed = let (join, is) = some-of (session_join h o.window.eui o.window.session) keyed in rw is refl

pub own-some : (net : Network) (index : ℕ) (h : List Entry) (eui : DevEui) → shard_of eui ≡ index → IsSome (device net eui) → (d : Device) × (own_of eui (devices_in net index h) ≡ Some (own_in net h d)) × (d.eui ≡ eui)
own-some net index h eui mine known =
    let (d, is) = some-of (device net eui) known in
    (d, own-found net index h eui mine ∙ ap (option_map (own_in net h)) is, (found-device net eui d is).1)

-- the number of the device's record
ack-by_record : (net : Network) (index : ℕ) (h : List Entry) (o : Opening) → shard_of o.window.eui ≡ index → IsSome (device net o.window.eui) →
    ack_of (devices_in net index h) (window_of_opening h o) ≡ cond (is_confirmed o.frame) (ack_in (device_record net h o.window.eui) o.window.session) None
ack-by_record net index h o mine known =
    let found = own-some net index h o.window.eui mine known in
    ap (λ (x : Option Own). cond (is_confirmed o.frame) (option_and_then (λ (y : Own). ack_in y.state o.window.session) x) None) found.1
    ∙ ap (λ (e : DevEui). cond (is_confirmed o.frame) (ack_in (device_record net h e) o.window.session) None) found.2

closed-out : (net : Network) (h : List Entry) (w : WindowName) (o : Opening) → open_window h w ≡ Some o → (ack : Option ℕ) → uplink_from (window_of_opening h o) ≡ uplink_of h o → ((n : ℕ) → ack_from net (window_of_opening h o) n ≡ ack_downlink net h o n) →
    let a : Answer = record { reply = reply.Closed w ack; uplink = first_uplink_from (window_of_opening h o); downlink = option_and_then (λ n. ack_from net (window_of_opening h o) n) ack } in
    let b : Answer = record { reply = reply.Closed w ack; uplink = uplink_out h (call.Close w) (reply.Closed w ack); downlink = downlink_out net h (call.Close w) (reply.Closed w ack) } in
    a ≡ b
closed-out net h w o is None uplink ack_is =
    ap (λ (u : Option Uplink). let a : Answer = record { reply = reply.Closed w None; uplink = u; downlink = None } in a) (ap (when (is_first o.window)) uplink ∙ ap (option_and_then (first_uplink_of h)) (sym is))
closed-out net h w o is (Some n) uplink ack_is =
    ap₂ (λ (u : Option Uplink) (d : Option Downlink). let a : Answer = record { reply = reply.Closed w (Some n); uplink = u; downlink = d } in a)
    (ap (when (is_first o.window)) uplink ∙ ap (option_and_then (first_uplink_of h)) (sym is)) (ack_is n ∙ ap (option_and_then (λ (x : Opening). ack_downlink net h x n)) (sym is))

abbrev close_with : Network → List Entry → WindowName → Reply → Answer
close_with net h w r = record { reply = r; uplink = uplink_out h (call.Close w) r; downlink = downlink_out net h (call.Close w) r }

close-reply : (h : List Entry) (w : WindowName) (found : Option Opening) → open_window h w ≡ found → reply_to_close h w ≡ first_case (option_map (λ o. reply.Closed w (ack_number h o)) found ∷ []) reply.NoWindow
close-reply h w found is = ap (λ (x : Option Opening). first_case (option_map (λ (o : Opening). reply.Closed w (ack_number h o)) x ∷ []) reply.NoWindow) is

pub close-answered : (net : Network) (index : ℕ) (h : List Entry) (devices : List Own) (windows : List Window) (w : WindowName) → Agrees net index h devices windows → ClosingsAgree net h → shard_of w.eui ≡ index →
    ended_or net reply.NoWindow (close_ended devices (window_named w windows)) ≡ answer net h (call.Close w)
close-answered net index h devices windows w agrees law mine =
    ap₂ (λ ds x. ended_or net reply.NoWindow (close_ended ds x)) agrees.by_device (ap (window_named w) agrees.by_window ∙ windows-named h w) ∙ step (open_window h w) refl
  where
    step : (found : Option Opening) → open_window h w ≡ found → ended_or net reply.NoWindow (close_ended (devices_in net index h) (option_map (window_of_opening h) found)) ≡ answer net h (call.Close w)
    step None is = ap (close_with net h w) (sym (close-reply h w None is))
    step (Some o) is =
        let kept = open-kept net index h devices windows w o agrees is in
        let name : o.window ≡ w = kept.0 in
        let shard : shard_of o.window.eui ≡ index = ap (λ (v : WindowName). shard_of v.eui) name ∙ mine in
        let ack : ack_of (devices_in net index h) (window_of_opening h o) ≡ ack_number h o = ack-by_record net index h o shard kept.1 ∙ sym (law.numbers agrees.history.legal o) in
        ap₂ (λ (v : WindowName) (n : Option ℕ).
        let a : Answer = record { reply = reply.Closed v n; uplink = first_uplink_from (window_of_opening h o); downlink = option_and_then (λ m. ack_from net (window_of_opening h o) m) n } in a) name ack
        ∙ (closed-out net h w o is (ack_number h o) (uplink-same h o kept.2) (λ n. ack-same net h o n kept.2)
        ∙ ap (close_with net h w) (sym (close-reply h w (Some o) is)))

-- ---- after it

-- where there is no number, nothing is used
no_ack : (s : Session) → session_ack s ≡ None → session_after_ack s ≡ s
no_ack s is = elim (bool_tells (nat_lt s.next_ack (2 ^ 32))) [ inl less ↦ absurd (cc (rw less at is)) | inr used ↦ rw used ]

none-acknowledged : (number : ℕ) (sessions : List Session) → option_and_then session_ack (find (λ s. s.number == number) sessions) ≡ None → change_session number session_after_ack sessions ≡ sessions
none-acknowledged number [] none = refl
none-acknowledged number (s ∷ sessions) none =
    elim (bool_tells (s.number == number)) [
      | inl here ↦ rw here (ap (λ (x : Session). x ∷ sessions) (no_ack s (rw here at none)))
      | inr other ↦ rw other (ap (λ xs. s ∷ xs) (none-acknowledged number sessions (rw other at none)))
    ]

with_ack-none : (session : ℕ) (r : DeviceRecord) → ack_in r session ≡ None → with_ack session r ≡ r
with_ack-none session r none = ap (λ ss. record r { sessions = ss }) (none-acknowledged session r.sessions none)

concerns-close : (other : DevEui) (w : WindowName) (r : Reply) → same_device other w.eui ≡ false → concerns other (call.Close w) r ≡ false
concerns-close other w (reply.Closed closed (Some n)) differs = same_device-false other w.eui differs
concerns-close other w (reply.Closed closed None) differs = refl
concerns-close other w _ differs = refl

-- a closing without a number leaves what is said of each device
unnumbered : (net : Network) (h : List Entry) (w : WindowName) (r : Reply) → OthersStay → reply_to_close h w ≡ r → ((eui : DevEui) → concerns eui (call.Close w) r ≡ false) → (eui : DevEui) → device_record net (with_call net h (length h) (call.Close w)) eui ≡ device_record net h eui
unnumbered net h w r stay is none eui = stay.others net h (entry_for net h (length h) (call.Close w)) eui (ap (λ x. concerns eui (call.Close w) x) is ∙ none eui)

pub agrees-close : (net : Network) (index : ℕ) (h : List Entry) (devices : List Own) (windows : List Window) (w : WindowName) → Agrees net index h devices windows → OthersStay → ClosingsAgree net h → shard_of w.eui ≡ index →
    Agrees net index (with_call net h (length h) (call.Close w)) (with_closing (window_named w windows) devices) (without w windows)
agrees-close net index h devices windows w agrees stay law mine = record {
  valid = agrees.valid;
  history = history_more net index h (call.Close w) mine agrees.history;
  by_device = ap₂ with_closing (ap (window_named w) agrees.by_window ∙ windows-named h w) agrees.by_device ∙ devices_step (open_window h w) refl;
  by_window = ap (without w) agrees.by_window ∙ sym (windows_after (open_window h w) refl);
}
  where
    now : List Entry
    now = with_call net h (length h) (call.Close w)

    confirmed_step : (o : Opening) → open_window h w ≡ Some o → is_confirmed o.frame ≡ true → (ack : Option ℕ) → ack_in (device_record net h w.eui) w.session ≡ ack → devices_in net index now ≡ with_change_of w.eui (with_ack w.session) (devices_in net index h)
    confirmed_step o is confirmed ack ack_is =
        let kept = open-kept net index h devices windows w o agrees is in
        let number : ack_number h o ≡ ack =
        law.numbers agrees.history.legal o
        ∙ (ap (λ b. cond b (ack_in (device_record net h o.window.eui) o.window.session) None) confirmed
        ∙ (ap (λ (v : WindowName). ack_in (device_record net h v.eui) v.session) kept.0 ∙ ack_is)) in
        let reply_is : reply_to_close h w ≡ reply.Closed w ack = close-reply h w (Some o) is ∙ ap (reply.Closed w) number in
        devices-changed net index h now w.eui (with_ack w.session) agrees.valid
        (others-stay net h (length h) (call.Close w) w.eui stay (λ other differs. concerns-close other w (reply_to_close h w) differs))
        (this ack ack_is reply_is)
      where
        this : (n : Option ℕ) → ack_in (device_record net h w.eui) w.session ≡ n → reply_to_close h w ≡ reply.Closed w n → device_record net now w.eui ≡ with_ack w.session (device_record net h w.eui)
        this None none r = unnumbered net h w (reply.Closed w None) stay r (λ eui. refl) w.eui ∙ sym (with_ack-none w.session (device_record net h w.eui) none)
        this (Some n) some r =
            ap (λ (x : Reply). let e : Entry = record { number = length h; call = call.Close w; reply = x } in device_record net (h ++ e ∷ []) w.eui) r
            ∙ sym (law.records (length h) w n some)

    devices_step : (found : Option Opening) → open_window h w ≡ found → with_closing (option_map (window_of_opening h) found) (devices_in net index h) ≡ devices_in net index now
    devices_step None is = sym (devices-same net index h now (unnumbered net h w reply.NoWindow stay (close-reply h w None is) (λ eui. refl)))
    devices_step (Some o) is =
        let kept = open-kept net index h devices windows w o agrees is in
        elim (bool_tells (is_confirmed o.frame)) [
          | inl confirmed ↦
              rw confirmed
              (ap (λ (v : WindowName). with_change_of v.eui (with_ack v.session) (devices_in net index h)) kept.0
              ∙ sym (confirmed_step o is confirmed (ack_in (device_record net h w.eui) w.session) refl))
          | inr not_confirmed ↦
              (let number : ack_number h o ≡ None = law.numbers agrees.history.legal o ∙ ap (λ b. cond b (ack_in (device_record net h o.window.eui) o.window.session) None) not_confirmed in
              rw not_confirmed
              (sym (devices-same net index h now (unnumbered net h w (reply.Closed w None) stay (close-reply h w (Some o) is ∙ ap (reply.Closed w) number) (λ eui. refl)))))
        ]

    windows_after : (found : Option Opening) → open_window h w ≡ found → windows_in now ≡ without w (windows_in h)
    windows_after None is =
        let e : Entry = entry_for net h (length h) (call.Close w) in
        let reply_is : reply_to_close h w ≡ reply.NoWindow = close-reply h w None is in
        windows-quiet h e (joined net index h devices windows agrees) (ap (history.closing_in (call.Close w)) reply_is) (close-says (λ s. opened s ≡ None) w (λ ack. refl) refl (reply_to net h (call.Close w))) (close-says (λ s. copied s ≡ None) w (λ ack. refl) refl (reply_to net h (call.Close w)))
        ∙ sym (Rattle.ns_windows.proofs.Passing.filter-none (Rattle.ns_windows.specs.Windows.is_named w) (windows_in h) (Rattle.ns_windows.proofs.Passing.none_found (Rattle.ns_windows.specs.Windows.is_named w) (windows_in h) (windows-named h w ∙ ap (option_map (window_of_opening h)) is)))
    windows_after (Some o) is =
        windows-closed h (entry_for net h (length h) (call.Close w)) w (ack_number h o) (joined net index h devices windows agrees) refl (close-reply h w (Some o) is)
