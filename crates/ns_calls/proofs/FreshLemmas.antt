-- A window that is opened is new.
use Rattle.std.proofs.Common.{◌≡◌, ◌⊎◌, ℕ, ◌+◌, ◌≤◌, ◌==◌, Bool, true, false, cond, List, [], ◌∷◌, ◌++◌, filter, map, find, count_by, Option, None, Some, IfSome, option_to_list, refl, sym, ap, subst, ◌∙◌, arith, inl, inr}
use Rattle.std.proofs.lemmas.Bool.{or_left, or_right, eq-eqb, false_from_ne_true}
use Rattle.std.specs.Prelude.{is_some}
use Rattle.std.specs.List.{AllByRecursion, list_any}
use Rattle.std.proofs.lemmas.Option.{same_Some}
use Rattle.ns_types.specs.declared.identity.DevEui.{DevEui}
use Rattle.ns_types.specs.declared.identity.WindowName.{WindowName}
use Rattle.ns_types.specs.declared.heard.Heard.{Heard}
use Rattle.ns_types.specs.Identity.{same_window}
use Rattle.ns_views.specs.Frame.{data_fields}
use Rattle.ns_roster.specs.declared.Device.{Device}
use Rattle.ns_roster.specs.Network.{Network}
use Rattle.ns_calls.specs.declared.call.Call.{Call}
use Rattle.ns_calls.specs.declared.call.Call.TheVariants as call
use Rattle.ns_calls.specs.declared.call.Reply.{Reply}
use Rattle.ns_calls.specs.declared.call.Reply.TheVariants as reply
use Rattle.ns_calls.specs.declared.call.Entry.{Entry}
use Rattle.ns_calls.specs.Entries.{Opening, open_windows}
use Rattle.ns_calls.specs.History.{last_round, live, is_live, open_window, window_copies, copied}
use Rattle.ns_calls.proofs.Says.{opening_in, window_in, window_copy_in, opening_of, join-says, answer-says, close-says}
use Rattle.ns_calls.specs.Reply.{Fit, window_of, session_fit, device_fit, devices_at, first_fit, window_with, in_round, reply_to, reply_to_uplink}
use Rattle.ns_calls.specs.Legal.{IsLegal, entry_for, with_call}
use Rattle.ns_calls.specs.Laws.{opening_count, open_count, WindowsOpenOnce}
use Rattle.ns_calls.specs.Headline.{IsNewWindow, IsNextRound}
use Rattle.ns_calls.proofs.Lists.{All-weaker, first-gives, first-gives_of, count-cons, count-found, IfSome-weaker, at_some}
use Rattle.ns_calls.proofs.PushLemmas.{window_copies-push}
use Rattle.ns_calls.proofs.Induction.{legal_induction}
use Rattle.ns_calls.proofs.UplinkLemmas.{session_fit-has, IsNewOpening, IsNextOpening, IsOpened, uplink-has, opening-new, window-new, FitsAt, window-fits}
use Rattle.ns_calls.proofs.RoundLemmas.{windows-fresh, session-has_round}
use Rattle.ns_calls.proofs.ShardLemmas.{device_fit-names}
use Rattle.ns_calls.proofs.WindowLemmas.{openings-added, windows_open_once}

-- ---- a window that was never opened has no copies

count-member : {X : Type 0} (counts test : X → Bool) (xs : List X) (x : X) → find test xs ≡ Some x → counts x ≡ true → 1 ≤ count_by counts xs
count-member counts test [] x is here = absurd (cc is)
count-member {X} counts test (y ∷ ys) x is here = rw count-cons (
    (elim (test y) as (λ b. cond {A = Option X} b (Some y) (find test ys) ≡ Some x → 1 ≤ cond (counts y) 1 0 + count_by counts ys) [
      | true ↦ λ found. rw (ap counts (same_Some y x found) ∙ here) (omega arith)
      | false ↦ λ later. (let more = count-member counts test ys x later here in omega (arith, more))
    ]) is)

-- what an uplink adds a copy to: nothing, the open window of an equal frame, or the window that it opens
abbrev AddsTo : List ℕ → Heard → Option Opening → Reply → Type 0
AddsTo frame heard copied r =
    (window_copy_in (call.Uplink frame heard) r ≡ None)
    ⊎ (((o : Opening) × (copied ≡ Some o) × (window_copy_in (call.Uplink frame heard) r ≡ Some (o.window, heard)))
    ⊎ ((w : WindowName) × (window_in (call.Uplink frame heard) r ≡ Some (opening_of w frame heard)) × (window_copy_in (call.Uplink frame heard) r ≡ Some (w, heard))))

copied-cases : (net : Network) (h : List Entry) (frame : List ℕ) (heard : Heard) → AddsTo frame heard (window_with h frame) (reply_to_uplink net h frame)
copied-cases net h frame heard = uplink-has (AddsTo frame heard (window_with h frame)) net h frame (record {
  copied = λ o is room. inr (inl (o, is, refl));
  crowded = λ o is full. inl refl;
  opened = λ f none is room. inr (inr (window_of f, refl, refl));
  again = λ f round none is confirmed next room. inr (inr (in_round f round, refl, refl));
  busy = λ recover f is. inl refl;
  old = λ f is. inl refl;
  none = inl refl;
})

abbrev NoCopiesBefore : List Entry → Type 0
NoCopiesBefore h = (w : WindowName) → opening_count h w ≡ 0 → window_copies h w ≡ []

-- the copies that one call adds to a window
abbrev pub added : WindowName → Call → Reply → List Heard
added w c r = map (λ (x : WindowName × Heard). x.1) (filter (λ (x : WindowName × Heard). same_window x.0 w) (option_to_list (window_copy_in c r)))

pub added-other : (w : WindowName) (c : Call) (r : Reply) (v : WindowName) (heard : Heard) → window_copy_in c r ≡ Some (v, heard) → same_window v w ≡ false → added w c r ≡ []
added-other w c r v heard is other = rw (is, other)

pub added-none : (w : WindowName) (c : Call) (r : Reply) → window_copy_in c r ≡ None → added w c r ≡ []
added-none w c r is = ap (λ o. map (λ (x : WindowName × Heard). x.1) (filter (λ (x : WindowName × Heard). same_window x.0 w) (option_to_list o))) is

-- no copy is added to a window that was never opened and isn't opened by the call
nothing_added : (net : Network) (h : List Entry) → WindowsOpenOnce h → (c : Call) (w : WindowName) → opening_count h w ≡ 0 → count_by (λ o. same_window o.window w) (option_to_list (window_in c (reply_to net h c))) ≡ 0 → added w c (reply_to net h c) ≡ []
nothing_added net h once (call.Join t heard) w none new = added-none w (call.Join t heard) (reply_to net h (call.Join t heard)) (join-says (λ s. copied s ≡ None) t heard refl refl refl (reply_to net h (call.Join t heard)))
nothing_added net h once (call.JoinReply t o) w none new = added-none w (call.JoinReply t o) (reply_to net h (call.JoinReply t o)) (answer-says (λ s. copied s ≡ None) t o (λ n. refl) refl refl (reply_to net h (call.JoinReply t o)))
nothing_added net h once (call.Close v) w none new = added-none w (call.Close v) (reply_to net h (call.Close v)) (close-says (λ s. copied s ≡ None) v (λ ack. refl) refl (reply_to net h (call.Close v)))
nothing_added net h once (call.Uplink frame heard) w none new =
    let c : Call = call.Uplink frame heard in
    let r : Reply = reply_to net h c in
    elim (copied-cases net h frame heard) [
      | inl nothing ↦ added-none w c r nothing
      | inr added ↦
          elim added [
            | inl copied ↦
                added-other w c r copied.0.window heard copied.2 (false_from_ne_true (same_window copied.0.window w) (λ same.
                let least : 1 ≤ open_count h w = count-member (λ (o : Opening). same_window o.window w) _ (open_windows h) copied.0 copied.1 same in
                let sum = once.closes w in
                omega (arith, least, sum, none)))
            | inr opened ↦
                added-other w c r opened.0 heard opened.2 (false_from_ne_true (same_window opened.0 w) (λ same.
                let o : Opening = opening_of opened.0 frame heard in
                let one : count_by (λ (x : Opening). same_window x.window w) (o ∷ []) ≡ 1 + 0 = count-cons (λ (x : Opening). same_window x.window w) o [] ∙ ap (λ b. cond {A = ℕ} b 1 0 + 0) same in
                let zero_is : count_by (λ (x : Opening). same_window x.window w) (o ∷ []) ≡ 0 = sym (ap (λ x. count_by (λ (y : Opening). same_window y.window w) (option_to_list x)) opened.1) ∙ new in
                omega (arith, one, zero_is)))
          ]
    ]

no_copies_step : (net : Network) (h : List Entry) (number : ℕ) (c : Call) → IsLegal net h → NoCopiesBefore h → NoCopiesBefore (with_call net h number c)
no_copies_step net h number c legal before w none =
    let e : Entry = entry_for net h number c in
    let sum = openings-added h e w in
    let before_none : opening_count h w ≡ 0 = omega (arith, sum, none) in
    let new_none : count_by (λ (o : Opening). same_window o.window w) (option_to_list (window_in c (reply_to net h c))) ≡ 0 = omega (arith, sum, none) in
    window_copies-push h e w
    ∙ (ap (λ hs. hs ++ added w c (reply_to net h c)) (before w before_none)
    ∙ nothing_added net h (windows_open_once net h legal) c w before_none new_none)

no_copies : (net : Network) (h : List Entry) → IsLegal net h → NoCopiesBefore h
no_copies net h legal = legal_induction net NoCopiesBefore (λ w none. refl) (λ g number c ok before. no_copies_step net g number c ok before) h legal

-- ---- what fits has a live session

-- each element of a list passes with one of the list
each-passes : {X : Type 0} (same : X → X → Bool) → ((x : X) → same x x ≡ true) → (xs : List X) → AllByRecursion (λ x. list_any (λ y. same y x) xs ≡ true) xs
each-passes same refls [] = tt
each-passes {X} same refls (x ∷ xs) = (
  or_left (same x x) _ (refls x),
  All-weaker (λ u. list_any (λ y. same y u) xs ≡ true) (λ u. list_any (λ y. same y u) (x ∷ xs) ≡ true) (λ u later. or_right (same x u) _ later) xs (each-passes same refls xs),
)

-- the fit's session lives
abbrev pub Lives : List Entry → Fit → Type 0
Lives h f = is_live h f.eui f.session ≡ true

session_fit-live : (recover : Option ℕ → ℕ → Option ℕ) (h : List Entry) (frame : List ℕ) (eui : DevEui) (session : ℕ) → is_live h eui session ≡ true → IfSome (session_fit recover h frame eui session) (Lives h)
session_fit-live recover h frame eui session lives = session_fit-has (Lives h) recover h frame eui session (λ n is mic. lives)

pub device_fit-live : (recover : Option ℕ → ℕ → Option ℕ) (h : List Entry) (frame : List ℕ) (eui : DevEui) → IfSome (device_fit recover h frame eui) (Lives h)
device_fit-live recover h frame eui =
    first-gives_of (Lives h) (session_fit recover h frame eui) (live h eui)
    (All-weaker (λ s. is_live h eui s ≡ true) (λ s. IfSome (session_fit recover h frame eui s) (Lives h)) (λ s lives. session_fit-live recover h frame eui s lives) (live h eui) (each-passes (λ s t. s == t) (λ s. eq-eqb s s refl) (live h eui)))

pub first_fit-live : (recover : Option ℕ → ℕ → Option ℕ) (net : Network) (h : List Entry) (frame : List ℕ) → IfSome (first_fit recover net h frame) (Lives h)
first_fit-live recover net h frame =
    first-gives (Lives h) (λ (d : Device). device_fit recover h frame d.eui) (λ d. device_fit-live recover h frame d.eui) (devices_at net (data_fields frame).addr)

-- ---- what fits is of a device with the frame's address

first_fit-device : (recover : Option ℕ → ℕ → Option ℕ) (net : Network) (h : List Entry) (frame : List ℕ) → IfSome (first_fit recover net h frame) (λ f. list_any (λ d. d.eui.0 == f.eui.0) (devices_at net (data_fields frame).addr) ≡ true)
first_fit-device recover net h frame =
    let devices : List Device = devices_at net (data_fields frame).addr in
    let Known = λ (f : Fit). list_any (λ (x : Device). x.eui.0 == f.eui.0) devices ≡ true in
    first-gives_of Known (λ (d : Device). device_fit recover h frame d.eui) devices
    (All-weaker (λ (d : Device). list_any (λ (x : Device). x.eui.0 == d.eui.0) devices ≡ true) (λ (d : Device). IfSome (device_fit recover h frame d.eui) Known)
    (λ d is. IfSome-weaker (λ (f : Fit). f.eui ≡ d.eui) Known (device_fit recover h frame d.eui) (λ f names. subst (λ (e : DevEui). list_any (λ (x : Device). x.eui.0 == e.0) devices ≡ true) (sym names) is) (device_fit-names recover h frame d.eui))
    devices (each-passes (λ (x : Device) (d : Device). x.eui.0 == d.eui.0) (λ d. eq-eqb d.eui.0 d.eui.0 refl) devices))

-- ---- the window of an opening

none_found : (h : List Entry) (w : WindowName) → WindowsOpenOnce h → opening_count h w ≡ 0 → open_window h w ≡ None
none_found h w once none =
    (elim (open_window h w) as (λ o. open_window h w ≡ o → o ≡ None) [
      | None ↦ λ _. refl
      | Some o ↦ λ is.
          (let least : 1 ≤ open_count h w = count-found (λ (x : Opening). same_window x.window w) (open_windows h) (ap is_some is) in
          let sum = once.closes w in
          absurd (omega (arith, least, sum, none)))
    ]) refl

-- the device and the session of a window that is opened where a frame fits
known_at : (net : Network) (h : List Entry) (frame : List ℕ) (w : WindowName) → FitsAt net h frame w → list_any (λ d. d.eui.0 == w.eui.0) (devices_at net (data_fields frame).addr) ≡ true
known_at net h frame w at =
    subst (λ (x : DevEui). list_any (λ d. d.eui.0 == x.0) (devices_at net (data_fields frame).addr) ≡ true) at.eui
    (at_some (λ (x : Fit). list_any (λ d. d.eui.0 == x.eui.0) (devices_at net (data_fields frame).addr) ≡ true) (first_fit at.recover net h frame) at.fit at.is (first_fit-device at.recover net h frame))

lives_at : (net : Network) (h : List Entry) (frame : List ℕ) (w : WindowName) → FitsAt net h frame w → is_live h w.eui w.session ≡ true
lives_at net h frame w at =
    subst (λ s. is_live h w.eui s ≡ true) at.session (subst (λ (x : DevEui). is_live h x at.fit.session ≡ true) at.eui (at_some (Lives h) (first_fit at.recover net h frame) at.fit at.is (first_fit-live at.recover net h frame)))

-- what is opened was never opened
never : (net : Network) (h : List Entry) → IsLegal net h → (frame : List ℕ) (heard : Heard) (w : WindowName) → window_in (call.Uplink frame heard) (reply_to net h (call.Uplink frame heard)) ≡ Some (opening_of w frame heard) → opening_count h w ≡ 0
never net h legal frame heard w says =
    let c : Call = call.Uplink frame heard in
    at_some (λ (o : Opening). opening_count h o.window ≡ 0) (window_in c (reply_to net h c)) (opening_of w frame heard) says (windows-fresh net h legal c)

-- where a window is opened, in any round, none of its name is open, or has copies, and no open window has its frame
pub record IsApart (h : List Entry) (frame : List ℕ) (w : WindowName) : Type 0 where
  pub name : open_window h w ≡ None
  pub copies : window_copies h w ≡ []
  pub frame_apart : window_with h frame ≡ None

frame-apart : (h : List Entry) (c : Call) (r : Reply) (o : Opening) → IsOpened h c r o → window_with h o.frame ≡ None
frame-apart h c r o (inl first) = first.1.apart
frame-apart h c r o (inr next) = next.1.apart

pub windows-apart : (net : Network) (h : List Entry) → IsLegal net h → (frame : List ℕ) (heard : Heard) (w : WindowName) → window_in (call.Uplink frame heard) (reply_to net h (call.Uplink frame heard)) ≡ Some (opening_of w frame heard) → IsApart h frame w
windows-apart net h legal frame heard w says =
    let c : Call = call.Uplink frame heard in
    let none = never net h legal frame heard w says in
    let is_opened = at_some (IsOpened h c (reply_to net h c)) (window_in c (reply_to net h c)) (opening_of w frame heard) says (window-new net h c) in
    record { name = none_found h w (windows_open_once net h legal) none; copies = no_copies net h legal w none; frame_apart = frame-apart h c (reply_to net h c) (opening_of w frame heard) is_opened }

pub opened-new : (net : Network) (h : List Entry) → IsLegal net h → (frame : List ℕ) (heard : Heard) (w : WindowName) → reply_to net h (call.Uplink frame heard) ≡ reply.Opened w → IsNewWindow net h frame w
opened-new net h legal frame heard w is =
    let c : Call = call.Uplink frame heard in
    let o : Opening = opening_of w frame heard in
    let new : IsNewOpening h o = at_some (IsNewOpening h) (opening_in c (reply_to net h c)) o (ap (opening_in c) is) (opening-new net h c) in
    let fits = window-fits net h frame heard w (ap (window_in c) is) in
    let apart = windows-apart net h legal frame heard w (ap (window_in c) is) in
    record {
      device = known_at net h frame w fits;
      mic = new.fresh.mic;
      session = lives_at net h frame w fits;
      counter = new.fresh.counter;
      round = new.first;
      name = apart.name;
      copies = apart.copies;
      frame_apart = apart.frame_apart;
    }

next-opening : (h : List Entry) (c : Call) (r : Reply) (o : Opening) → opening_in c r ≡ None → IsOpened h c r o → IsNextOpening h o
next-opening h c r o none (inl first) = absurd (cc (none, first.0))
next-opening h c r o none (inr next) = next.1

pub again-next : (net : Network) (h : List Entry) → IsLegal net h → (frame : List ℕ) (heard : Heard) (w : WindowName) → reply_to net h (call.Uplink frame heard) ≡ reply.Again w → IsNextRound net h frame w
again-next net h legal frame heard w is =
    let c : Call = call.Uplink frame heard in
    let o : Opening = opening_of w frame heard in
    let says : window_in c (reply_to net h c) ≡ Some o = ap (window_in c) is in
    let opens = at_some (IsOpened h c (reply_to net h c)) (window_in c (reply_to net h c)) o says (window-new net h c) in
    let next = next-opening h c (reply_to net h c) o (ap (opening_in c) is) opens in
    let fits = window-fits net h frame heard w says in
    let least : 1 ≤ last_round h w = session-has_round net h legal w next.counter in
    let round : w.round ≡ last_round h w + 1 = next.next in
    record {
      device = known_at net h frame w fits;
      confirmed = next.confirmed;
      mic = next.mic;
      session = lives_at net h frame w fits;
      counter = next.counter;
      closed = next.closed;
      round = round;
      repeated = omega (arith, least, round);
      copies = (windows-apart net h legal frame heard w says).copies;
      frame_apart = next.apart;
    }
