-- The uplinks that a legal history opens.
use Rattle.std.proofs.Common.{◌≡◌, ◌⊎◌, ℕ, ◌+◌, ◌^◌, ◌<◌, ◌≤◌, Bool, true, false, ◌&&◌, ◌==◌, cond, List, [], ◌∷◌, ◌++◌, filter, map, nat_le, nat_lt, length, Option, None, Some, IfSome, option_map, refl, sym, ap, ap₂, subst, ◌∙◌, arith, inl, inr}
use Rattle.std.proofs.lemmas.Bool.{cond_both, and_parts, ltb-true, ltb-false, leb-false, eqb-true}
use Rattle.std.specs.Option.{option_and_then, option_map_or}
use Rattle.std.proofs.lemmas.List.{append-nil, map-append}
use Rattle.std.proofs.lemmas.List.Elements.{filter-append}
use Rattle.std.proofs.lemmas.Option.{same_Some, cond_some}
use Rattle.ns_types.specs.declared.identity.DevEui.{DevEui}
use Rattle.ns_types.specs.declared.identity.WindowName.{WindowName}
use Rattle.ns_types.specs.declared.heard.Heard.{Heard}
use Rattle.ns_types.specs.Cases.{when}
use Rattle.ns_views.specs.Frame.{data_fields, is_confirmed}
use Rattle.ns_secure.specs.Counter.{Exceeds, above, below, with_low}
use Rattle.ns_secure.specs.Integrity.{mic_fits}
use Rattle.ns_roster.specs.declared.Device.{Device}
use Rattle.ns_roster.specs.Network.{Network}
use Rattle.ns_calls.specs.declared.call.JoinAns.{JoinAns}
use Rattle.ns_calls.specs.declared.call.Call.{Call}
use Rattle.ns_calls.specs.declared.call.Call.TheVariants as call
use Rattle.ns_calls.specs.declared.call.Reply.{Reply}
use Rattle.ns_calls.specs.declared.call.Reply.TheVariants as reply
use Rattle.ns_calls.specs.declared.call.Entry.{Entry}
use Rattle.ns_calls.specs.Entries.{Opening, openings, same_device, session_counters, most_copies, Said, Opens, said, first_opened, opened}
use Rattle.ns_calls.proofs.Says.{opening_in, window_in, opening_of, join-says, answer-says, close-says}
use Rattle.ns_calls.specs.History.{greatest_counter, first_window, last_round, is_uplink_open, session_join, live, window_count, window_copies}
use Rattle.ns_calls.specs.Reply.{Fit, fit_of, window_of, fitting_counter, session_fit, device_fit, devices_at, first_fit, window_with, is_greatest, next_round, round_of, in_round, unless_busy, old_reply, UplinkFacts, uplink_rule, most_windows, reply_to, reply_to_uplink}
use Rattle.ns_calls.specs.Headline.{fits}
use Rattle.ns_calls.specs.Legal.{IsLegal, entry_for, with_call}
use Rattle.ns_calls.specs.Laws.{Rises, CountersRise}
use Rattle.ns_calls.proofs.Lists.{said-adds, first-gives, Exceeds-each, Rises-push, at_some, IfSome-weaker, option_map-same}
use Rattle.ns_calls.proofs.Induction.{legal_induction}
use Rattle.ns_calls.proofs.JoinLemmas.{same_device-eq}

-- ---- what fits at a counter above

-- a window whose counter is new in its session, and under whose key the MIC fits
pub record IsFresh (h : List Entry) (frame : List ℕ) (w : WindowName) : Type 0 where
  pub counter : Exceeds (greatest_counter h w.eui w.session) w.fcnt
  pub mic : fits h frame w ≡ true

capped : (P : ℕ → Type 0) (n : ℕ) → P n → IfSome (cond (nat_lt n (2 ^ 32)) (Some n) None) P
capped P n holds = cond_both (nat_lt n (2 ^ 32)) (Some n) None (λ o. IfSome o P) (λ _. holds) (λ _. tt)

pub above-exceeds : (greatest : Option ℕ) (low : ℕ) → IfSome (above greatest low) (λ n. Exceeds greatest n)
above-exceeds None low = tt
above-exceeds (Some g) low =
    cond_both (nat_lt g (with_low g low)) _ _ (λ o. IfSome o (λ n. g < n))
    (λ is. capped (λ n. g < n) (with_low g low) (ltb-true g (with_low g low) is)) (λ _. capped (λ n. g < n) (with_low g low + 65536) (omega arith))

-- a window that is opened at this fit is fresh
abbrev pub IsFreshFit : List Entry → List ℕ → Fit → Type 0
IsFreshFit h frame f = IsFresh h frame (window_of f)

-- what holds of each fit at a counter that recover gives, under whose key the MIC fits
abbrev OfFits : (Fit → Type 0) → (Option ℕ → ℕ → Option ℕ) → List Entry → List ℕ → DevEui → ℕ → Type 0
OfFits P recover h frame eui session =
    (n : ℕ) → recover (greatest_counter h eui session) (data_fields frame).fcnt16 ≡ Some n → fits h frame (first_window eui session n) ≡ true → P (fit_of eui session n)

pub session_fit-has : (P : Fit → Type 0) (recover : Option ℕ → ℕ → Option ℕ) (h : List Entry) (frame : List ℕ) (eui : DevEui) (session : ℕ) → OfFits P recover h frame eui session → IfSome (session_fit recover h frame eui session) P
session_fit-has P recover h frame eui session each = joined (session_join h eui session) refl
  where
    step : (join : JoinAns) → session_join h eui session ≡ Some join → (o : Option ℕ) → recover (greatest_counter h eui session) (data_fields frame).fcnt16 ≡ o →
        IfSome (option_map (fit_of eui session) (option_and_then (λ counter. when (mic_fits frame join.nwk.0 counter) counter) o)) P
    step join is None at = tt
    step join is (Some n) at = cond_both (mic_fits frame join.nwk.0 n) (Some n) None (λ p. IfSome (option_map (fit_of eui session) p) P)
        (λ mic. each n at (ap (λ (j : Option JoinAns). option_map_or (λ (x : JoinAns). mic_fits frame x.nwk.0 n) j false) is ∙ mic)) (λ _. tt)

    joined : (j : Option JoinAns) → session_join h eui session ≡ j → IfSome (option_map (fit_of eui session) (option_and_then (λ (join : JoinAns). fitting_counter recover frame join.nwk (greatest_counter h eui session)) j)) P
    joined None is = tt
    joined (Some join) is = step join is (recover (greatest_counter h eui session) (data_fields frame).fcnt16) refl

first_fit-has : (P : Fit → Type 0) (recover : Option ℕ → ℕ → Option ℕ) (net : Network) (h : List Entry) (frame : List ℕ) → ((eui : DevEui) (session : ℕ) → OfFits P recover h frame eui session) → IfSome (first_fit recover net h frame) P
first_fit-has P recover net h frame each =
    first-gives P (λ (d : Device). device_fit recover h frame d.eui)
    (λ d. first-gives P (session_fit recover h frame d.eui) (λ session. session_fit-has P recover h frame d.eui session (each d.eui session)) (live h d.eui)) (devices_at net (data_fields frame).addr)

pub first_fit-fresh : (net : Network) (h : List Entry) (frame : List ℕ) → IfSome (first_fit above net h frame) (IsFreshFit h frame)
first_fit-fresh net h frame = first_fit-has (IsFreshFit h frame) above net h frame (λ eui session n is mic. (
    let greatest : Option ℕ = greatest_counter h eui session in
    record { counter = at_some (Exceeds greatest) (above greatest (data_fields frame).fcnt16) n is (above-exceeds greatest (data_fields frame).fcnt16); mic = mic }))

first_fit-mic : (recover : Option ℕ → ℕ → Option ℕ) (net : Network) (h : List Entry) (frame : List ℕ) → IfSome (first_fit recover net h frame) (λ f. fits h frame (window_of f) ≡ true)
first_fit-mic recover net h frame = first_fit-has (λ f. fits h frame (window_of f) ≡ true) recover net h frame (λ eui session n is mic. mic)

-- ---- what is opened

-- what the next round of an uplink is
pub record IsRoundOf (h : List Entry) (f : Fit) (round : ℕ) : Type 0 where
  pub counter : greatest_counter h f.eui f.session ≡ Some f.counter
  pub closed : is_uplink_open h (window_of f) ≡ false
  pub next : round ≡ last_round h (window_of f) + 1
  pub small : round < 2 ^ 32

pub round_of-is : (h : List Entry) (f : Fit) (round : ℕ) → round_of h f ≡ Some round → IsRoundOf h f round
round_of-is h f round is = by_open (is_uplink_open h (window_of f)) refl is
  where
    next : ℕ
    next = last_round h (window_of f) + 1

    greatest-is : (o : Option ℕ) → is_greatest o f.counter ≡ true → o ≡ Some f.counter
    greatest-is None same = absurd (cc same)
    greatest-is (Some n) same = ap Some (eqb-true n f.counter same)

    by_open : (b : Bool) → is_uplink_open h (window_of f) ≡ b → cond b None (next_round h f) ≡ Some round → IsRoundOf h f round
    by_open true closed now = absurd (cc now)
    by_open false closed now =
        let is_next = cond_some (is_greatest (greatest_counter h f.eui f.session) f.counter && nat_lt next (2 ^ 32)) next round now in
        let tests = and_parts (is_greatest (greatest_counter h f.eui f.session) f.counter) (nat_lt next (2 ^ 32)) is_next.0 in
        record {
          counter = greatest-is (greatest_counter h f.eui f.session) tests.0;
          closed = closed;
          next = sym is_next.1;
          small = subst (λ n. n < 2 ^ 32) is_next.1 (ltb-true next (2 ^ 32) tests.1);
        }

-- ---- the reply by its cases

-- the facts of a history, by what is asked of it
abbrev pub facts_by : List Entry → List ℕ → Option Opening → Option Fit → Option Fit → UplinkFacts
facts_by h frame copied fresh stale = record {
  confirmed = is_confirmed frame;
  copied = option_map (λ o. (o.window, length (window_copies h o.window))) copied;
  above = option_map (λ f. (f, window_count h f.eui)) fresh;
  below = option_map (λ f. (f, window_count h f.eui, round_of h f)) stale;
}

-- what is to be shown of each reply to an uplink
pub record UplinkCases (P : Reply → Type 0) (net : Network) (h : List Entry) (frame : List ℕ) : Type 0 where
  pub copied : (o : Opening) → window_with h frame ≡ Some o → length (window_copies h o.window) < most_copies → P (reply.Copied o.window (length (window_copies h o.window) + 1))
  pub crowded : (o : Opening) → window_with h frame ≡ Some o → most_copies ≤ length (window_copies h o.window) → P (reply.Crowded o.window)
  pub opened : (f : Fit) → window_with h frame ≡ None → first_fit above net h frame ≡ Some f → window_count h f.eui < most_windows → P (reply.Opened (window_of f))
  pub again : (f : Fit) (round : ℕ) → window_with h frame ≡ None → first_fit below net h frame ≡ Some f → is_confirmed frame ≡ true → IsRoundOf h f round → window_count h f.eui < most_windows → P (reply.Again (in_round f round))
  pub busy : (recover : Option ℕ → ℕ → Option ℕ) (f : Fit) → first_fit recover net h frame ≡ Some f → P (reply.Busy f.eui)
  pub old : (f : Fit) → first_fit below net h frame ≡ Some f → P (reply.Old f.eui f.session f.counter)
  pub none : P reply.NoSession

pub uplink-has : (P : Reply → Type 0) (net : Network) (h : List Entry) (frame : List ℕ) → UplinkCases P net h frame → P (reply_to_uplink net h frame)
uplink-has P net h frame cases = step (window_with h frame) (first_fit above net h frame) (first_fit below net h frame) refl refl refl
  where
    room : (f : Fit) (r : Reply) → P (reply.Busy f.eui) → (window_count h f.eui < most_windows → P r) → P (unless_busy f.eui (window_count h f.eui) r)
    room f r busy opened =
        cond_both (nat_le most_windows (window_count h f.eui)) (reply.Busy f.eui) r P (λ _. busy) (λ fits. opened (leb-false most_windows (window_count h f.eui) fits))

    old : (f : Fit) → window_with h frame ≡ None → first_fit below net h frame ≡ Some f → (b : Bool) → is_confirmed frame ≡ b → (o : Option ℕ) → round_of h f ≡ o → P (old_reply b f (window_count h f.eui) o)
    old f none is false confirmed o found = cases.old f is
    old f none is true confirmed None found = cases.old f is
    old f none is true confirmed (Some round) found =
        room f (reply.Again (in_round f round)) (cases.busy below f is) (cases.again f round none is confirmed (round_of-is h f round found))

    step : (o : Option Opening) (fresh stale : Option Fit) → window_with h frame ≡ o → first_fit above net h frame ≡ fresh → first_fit below net h frame ≡ stale → P (uplink_rule (facts_by h frame o fresh stale))
    step (Some o) fresh stale found above_is below_is =
        let copies : ℕ = length (window_copies h o.window) in
        cond_both (nat_lt copies most_copies) (reply.Copied o.window (copies + 1)) (reply.Crowded o.window) P
        (λ fits. cases.copied o found (ltb-true copies most_copies fits)) (λ full. cases.crowded o found (ltb-false copies most_copies full))
    step None (Some f) stale none above_is below_is = room f (reply.Opened (window_of f)) (cases.busy above f above_is) (cases.opened f none above_is)
    step None None (Some f) none above_is below_is = old f none below_is (is_confirmed frame) refl (round_of h f) refl
    step None None None none above_is below_is = cases.none

-- what two histories say of where a frame fits is the same
pub record SaysSame (g h : List Entry) (f : Fit) : Type 0 where
  pub windows : window_count g f.eui ≡ window_count h f.eui
  pub round : round_of g f ≡ round_of h f

-- the facts of two histories are the same
pub record AreSame (net : Network) (g h : List Entry) (frame : List ℕ) : Type 0 where
  pub window : window_with g frame ≡ window_with h frame
  pub fit : (recover : Option ℕ → ℕ → Option ℕ) → first_fit recover net g frame ≡ first_fit recover net h frame
  pub copies : IfSome (window_with h frame) (λ o. window_copies g o.window ≡ window_copies h o.window)
  pub of_fit : (recover : Option ℕ → ℕ → Option ℕ) → IfSome (first_fit recover net h frame) (SaysSame g h)

pub uplink-same : (net : Network) (g h : List Entry) (frame : List ℕ) → AreSame net g h frame → reply_to_uplink net g frame ≡ reply_to_uplink net h frame
uplink-same net g h frame same =
    let copied = option_map-same (λ (o : Opening). (o.window, length (window_copies g o.window))) (λ (o : Opening). (o.window, length (window_copies h o.window))) (window_with g frame) (window_with h frame) same.window
    (IfSome-weaker (λ (o : Opening). window_copies g o.window ≡ window_copies h o.window) (λ (o : Opening). (o.window, length (window_copies g o.window)) ≡ (o.window, length (window_copies h o.window))) (window_with h frame) (λ o is. ap (λ (cs : List Heard). (o.window, length cs)) is) same.copies) in
    let fresh = option_map-same (λ (f : Fit). (f, window_count g f.eui)) (λ (f : Fit). (f, window_count h f.eui)) (first_fit above net g frame) (first_fit above net h frame) (same.fit above)
    (IfSome-weaker (SaysSame g h) (λ (f : Fit). (f, window_count g f.eui) ≡ (f, window_count h f.eui)) (first_fit above net h frame) (λ f is. ap (λ n. (f, n)) is.windows) (same.of_fit above)) in
    let stale = option_map-same (λ (f : Fit). (f, window_count g f.eui, round_of g f)) (λ (f : Fit). (f, window_count h f.eui, round_of h f)) (first_fit below net g frame) (first_fit below net h frame) (same.fit below)
    (IfSome-weaker (SaysSame g h) (λ (f : Fit). (f, window_count g f.eui, round_of g f) ≡ (f, window_count h f.eui, round_of h f)) (first_fit below net h frame) (λ f is. ap₂ (λ n r. (f, n, r)) is.windows is.round) (same.of_fit below)) in
    λ i. uplink_rule (record { confirmed = is_confirmed frame; copied = copied i; above = fresh i; below = stale i })

-- a window that is opened, in any round, is of a device and a session where the frame fits
pub record FitsAt (net : Network) (h : List Entry) (frame : List ℕ) (w : WindowName) : Type 0 where
  pub recover : Option ℕ → ℕ → Option ℕ
  pub fit : Fit
  pub is : first_fit recover net h frame ≡ Some fit
  pub eui : fit.eui ≡ w.eui
  pub session : fit.session ≡ w.session

pub window-fits : (net : Network) (h : List Entry) (frame : List ℕ) (heard : Heard) (w : WindowName) → window_in (call.Uplink frame heard) (reply_to_uplink net h frame) ≡ Some (opening_of w frame heard) → FitsAt net h frame w
window-fits net h frame heard w = uplink-has (λ r. window_in (call.Uplink frame heard) r ≡ Some (opening_of w frame heard) → FitsAt net h frame w) net h frame (record {
  copied = λ o is room says. absurd (cc says);
  crowded = λ o is full says. absurd (cc says);
  opened = λ f none is room says. at above f is (window_of f) says refl refl;
  again = λ f round none is confirmed next room says. at below f is (in_round f round) says refl refl;
  busy = λ recover f is says. absurd (cc says);
  old = λ f is says. absurd (cc says);
  none = λ says. absurd (cc says);
})
  where
    at : (recover : Option ℕ → ℕ → Option ℕ) (f : Fit) → first_fit recover net h frame ≡ Some f → (v : WindowName) → Some (opening_of v frame heard) ≡ Some (opening_of w frame heard) → f.eui ≡ v.eui → f.session ≡ v.session → FitsAt net h frame w
    at recover f is v says eui session =
        let name : v ≡ w = ap (λ (o : Opening). o.window) (same_Some (opening_of v frame heard) (opening_of w frame heard) says) in
        record { recover = recover; fit = f; is = is; eui = eui ∙ ap (λ (x : WindowName). x.eui) name; session = session ∙ ap (λ (x : WindowName). x.session) name }

-- an uplink with a new counter: its first window is fresh, and no open window has its frame
pub record IsNewOpening (h : List Entry) (o : Opening) : Type 0 where
  pub fresh : IsFresh h o.frame o.window
  pub first : o.window.round ≡ 1
  pub apart : window_with h o.frame ≡ None

-- ---- windows of any round

-- an uplink with the greatest counter of its session, whose window is opened again in the next round
pub record IsNextOpening (h : List Entry) (o : Opening) : Type 0 where
  pub confirmed : is_confirmed o.frame ≡ true
  pub mic : fits h o.frame o.window ≡ true
  pub counter : greatest_counter h o.window.eui o.window.session ≡ Some o.window.fcnt
  pub closed : is_uplink_open h o.window ≡ false
  pub next : o.window.round ≡ last_round h o.window + 1
  pub apart : window_with h o.frame ≡ None

-- what a call with this reply opens: a first window, or one of a next round
abbrev pub IsOpened : List Entry → Call → Reply → Opening → Type 0
IsOpened h c r o = ((opening_in c r ≡ Some o) × IsNewOpening h o) ⊎ ((opening_in c r ≡ None) × IsNextOpening h o)

-- each window that a call opens is the first of a fresh counter, or the next of the greatest one
pub window-new : (net : Network) (h : List Entry) (c : Call) → IfSome (window_in c (reply_to net h c)) (IsOpened h c (reply_to net h c))
window-new net h (call.Join t heard) = let c = call.Join t heard in join-says (λ s. IfSome (opened s) (IsOpened h c (reply_to net h c))) t heard tt tt tt (reply_to net h c)
window-new net h (call.JoinReply t o) = let c = call.JoinReply t o in answer-says (λ s. IfSome (opened s) (IsOpened h c (reply_to net h c))) t o (λ n. tt) tt tt (reply_to net h c)
window-new net h (call.Close w) = let c = call.Close w in close-says (λ s. IfSome (opened s) (IsOpened h c (reply_to net h c))) w (λ ack. tt) tt (reply_to net h c)
window-new net h (call.Uplink frame heard) =
    let c : Call = call.Uplink frame heard in
    uplink-has (λ r. IfSome (window_in c r) (IsOpened h c r)) net h frame (record {
      copied = λ o is room. tt;
      crowded = λ o is full. tt;
      opened = λ f none is room. inl (refl, record { fresh = at_some (IsFreshFit h frame) (first_fit above net h frame) f is (first_fit-fresh net h frame); first = refl; apart = none });
      again = λ f round none is confirmed next room. inr (
        refl,
        record {
          confirmed = confirmed;
          mic = at_some (λ (x : Fit). fits h frame (window_of x) ≡ true) (first_fit below net h frame) f is (first_fit-mic below net h frame);
          counter = next.counter;
          closed = next.closed;
          next = next.next;
          apart = none;
        },
      );
      busy = λ recover f is. tt;
      old = λ f is. tt;
      none = tt;
    })

first-new : (h : List Entry) (s : Said) → IfSome (opened s) (λ o. ((first_opened s ≡ Some o) × IsNewOpening h o) ⊎ ((first_opened s ≡ None) × IsNextOpening h o)) → IfSome (first_opened s) (IsNewOpening h)
first-new h (Opens o) (inl first) = first.1
first-new h (Opens o) (inr next) = absurd (cc next.0)
first-new h _ is = tt

pub opening-new : (net : Network) (h : List Entry) (c : Call) → IfSome (opening_in c (reply_to net h c)) (IsNewOpening h)
opening-new net h c = first-new h (said c (reply_to net h c)) (window-new net h c)

-- what a call adds to the openings of a device, with what holds of it
pub record AddedOpening (Holds : Opening → Type 0) (h : List Entry) (eui : DevEui) (now : List Opening) : Type 0 where
  pub o : Opening
  pub joined : now ≡ openings h eui ++ o ∷ []
  pub device : o.window.eui ≡ eui
  pub new : Holds o

pub openings-cases : (Holds : Opening → Type 0) (net : Network) (h : List Entry) (number : ℕ) (c : Call) → IfSome (opening_in c (reply_to net h c)) Holds → (eui : DevEui) →
    let now : List Opening = openings (with_call net h number c) eui in
    (now ≡ openings h eui) ⊎ AddedOpening Holds h eui now
openings-cases Holds net h number c holds eui =
    elim (said-adds (λ (x : Entry). opening_in x.call x.reply) (λ (o : Opening). same_device o.window.eui eui) h (entry_for net h number c)) [
      | inl same ↦ inl same
      | inr one ↦ inr (record {
        o = one.thing;
        joined = one.joined;
        device = same_device-eq one.thing.window.eui eui one.asked;
        new = at_some Holds (opening_in c (reply_to net h c)) one.thing one.says holds;
      })
    ]

-- ---- counters rise

-- a call adds no counter to a session, or one above its greatest
pub counters-cases : (net : Network) (h : List Entry) (number : ℕ) (c : Call) (eui : DevEui) (session : ℕ) →
    let now : List ℕ = session_counters (with_call net h number c) eui session in
    (now ≡ session_counters h eui session) ⊎ ((n : ℕ) × (now ≡ session_counters h eui session ++ n ∷ []) × Exceeds (greatest_counter h eui session) n)
counters-cases net h number c eui session =
    let in_session : Opening → Bool = λ o. o.window.session == session in
    let fcnt : Opening → ℕ = λ o. o.window.fcnt in
    let counters : List Opening → List ℕ = λ os. map fcnt (filter in_session os) in
    elim (openings-cases (IsNewOpening h) net h number c (opening-new net h c) eui) [
      | inl same ↦ inl (ap counters same)
      | inr new ↦
          (let before : List Opening = filter in_session (openings h eui) in
          let now : List ℕ = session_counters (with_call net h number c) eui session in
          let n : ℕ = new.o.window.fcnt in
          (elim (in_session new.o) as (λ b. in_session new.o ≡ b → now ≡ map fcnt (before ++ cond b (new.o ∷ []) []) → (now ≡ map fcnt before) ⊎ ((m : ℕ) × (now ≡ map fcnt before ++ m ∷ []) × Exceeds (greatest_counter h eui session) m)) [
            | true ↦ λ here joined.
                (let exceeds : Exceeds (greatest_counter h new.o.window.eui session) n = subst (λ s. Exceeds (greatest_counter h new.o.window.eui s) n) (eqb-true new.o.window.session session here) new.new.fresh.counter in
                inr (n, joined ∙ map-append fcnt before (new.o ∷ []), subst (λ (d : DevEui). Exceeds (greatest_counter h d session) n) new.device exceeds))
            | false ↦ λ _ joined. inl (joined ∙ ap (map fcnt) (append-nil before))
          ]) refl (ap counters new.joined ∙ ap (map fcnt) (filter-append in_session (openings h eui) (new.o ∷ []))))
    ]

counters_step : (net : Network) (h : List Entry) (number : ℕ) (c : Call) → CountersRise h → CountersRise (with_call net h number c)
counters_step net h number c rises eui session =
    elim (counters-cases net h number c eui session) [
      | inl same ↦ subst Rises (sym same) (rises eui session)
      | inr more ↦ subst Rises (sym more.1) (Rises-push (session_counters h eui session) more.0 (rises eui session) (Exceeds-each (session_counters h eui session) more.0 more.2))
    ]

pub counters_rise : (net : Network) (h : List Entry) → IsLegal net h → CountersRise h
counters_rise net h legal = legal_induction net CountersRise (λ eui session. tt) (λ g number c ok rises. counters_step net g number c rises) h legal
