-- What the sessions of every legal history are like.
use Rattle.std.proofs.Common.{◌≡◌, ◌⊎◌, ℕ, ◌==◌, Bool, true, false, List, [], ◌∷◌, ◌++◌, filter, map, Option, None, Some, IfSome, option_map, refl, sym, ap, subst, ◌∙◌, arith, inl, inr}
use Rattle.std.specs.Prelude.{IsSome, is_some}
use Rattle.std.specs.List.{AllByRecursion, list_any}
use Rattle.std.proofs.lemmas.List.{append-nil}
use Rattle.std.proofs.lemmas.List.Elements.{filter-append}
use Rattle.std.proofs.lemmas.Bool.Decides.{nat_tests}
use Rattle.ns_types.specs.declared.identity.DevEui.{DevEui}
use Rattle.ns_types.specs.declared.identity.WindowName.{WindowName}
use Rattle.ns_types.specs.Identity.{same_window}
use Rattle.ns_views.specs.Frame.{data_fields}
use Rattle.ns_secure.specs.Counter.{above}
use Rattle.ns_roster.specs.declared.Device.{Device}
use Rattle.ns_roster.specs.Network.{Network}
use Rattle.ns_calls.specs.declared.call.JoinAns.{JoinAns}
use Rattle.ns_calls.specs.declared.call.Call.{Call}
use Rattle.ns_calls.specs.declared.call.Call.TheVariants as call
use Rattle.ns_calls.specs.declared.call.Entry.{Entry}
use Rattle.ns_calls.specs.Queries.{last}
use Rattle.ns_calls.specs.Entries.{Acceptance, Opening, Closing, acceptances, openings, same_device, session_counters, open_windows, first_opened, closed}
use Rattle.ns_calls.proofs.Says.{opening_in, closing_in, uplink-says, join-says, answer-says, close-says}
use Rattle.ns_calls.specs.History.{closings, session_join, active_session, newest_session, live, is_live, open_window}
use Rattle.ns_calls.specs.Reply.{Fit, session_fit, device_fit, devices_at, first_fit, reply_to}
use Rattle.ns_calls.specs.Legal.{IsLegal, entry_for, with_call}
use Rattle.ns_calls.specs.Headline.{SessionsHaveJoins}
use Rattle.ns_calls.proofs.Lists.{said-adds, All-push, All-weaker, find-has, at_some, first-gives_of, first-gives}
use Rattle.ns_calls.proofs.QueryLemmas.{last-push}
use Rattle.ns_calls.proofs.Induction.{legal_induction}
use Rattle.ns_calls.proofs.JoinLemmas.{acceptances-cases, same_device-eq}
use Rattle.ns_calls.proofs.UplinkLemmas.{AddedOpening, openings-cases, uplink-has}
use Rattle.ns_calls.proofs.KeyLemmas.{has_join-stays, session_join-next, sessions_have_joins}
use Rattle.ns_calls.proofs.NameLemmas.{same_window-eq}
use Rattle.std.proofs.Math.Bool.{or-true}

-- ---- where an uplink fits

each_member : (xs : List ℕ) → AllByRecursion (λ s. list_any (λ n. n == s) xs ≡ true) xs
each_member [] = tt
each_member (x ∷ xs) = (grind (arith, nat_tests), All-weaker (λ s. list_any (λ n. n == s) xs ≡ true) (λ s. list_any (λ n. n == s) (x ∷ xs) ≡ true) (λ s is. rw (is, or-true)) xs (each_member xs))

-- the fit's session lives, and has keys
pub record IsFit (h : List Entry) (f : Fit) : Type 0 where
  pub lives : is_live h f.eui f.session ≡ true
  pub keyed : IsSome (session_join h f.eui f.session)

session_fit-live : (recover : Option ℕ → ℕ → Option ℕ) (h : List Entry) (frame : List ℕ) (eui : DevEui) (session : ℕ) → is_live h eui session ≡ true → IfSome (session_fit recover h frame eui session) (IsFit h)
session_fit-live recover h frame eui session lives = grind arith

pub device_fit-live : (recover : Option ℕ → ℕ → Option ℕ) (h : List Entry) (frame : List ℕ) (eui : DevEui) → IfSome (device_fit recover h frame eui) (IsFit h)
device_fit-live recover h frame eui =
    first-gives_of (IsFit h) (session_fit recover h frame eui) (live h eui)
    (All-weaker (λ s. is_live h eui s ≡ true) (λ s. IfSome (session_fit recover h frame eui s) (IsFit h)) (λ s lives. session_fit-live recover h frame eui s lives) (live h eui) (each_member (live h eui)))

pub first_fit-live : (recover : Option ℕ → ℕ → Option ℕ) (net : Network) (h : List Entry) (frame : List ℕ) → IfSome (first_fit recover net h frame) (IsFit h)
first_fit-live recover net h frame =
    first-gives (IsFit h) (λ (d : Device). device_fit recover h frame d.eui) (λ (d : Device). device_fit-live recover h frame d.eui) (devices_at net (data_fields frame).addr)

-- the window's session lives, and has keys
pub record IsLiveWindow (h : List Entry) (w : WindowName) : Type 0 where
  pub lives : is_live h w.eui w.session ≡ true
  pub keyed : IsSome (session_join h w.eui w.session)

-- what a call opens fits in a live session
opening-live : (net : Network) (h : List Entry) (c : Call) → IfSome (opening_in c (reply_to net h c)) (λ o. IsLiveWindow h o.window)
opening-live net h (call.Join t heard) = join-says (λ s. IfSome (first_opened s) (λ o. IsLiveWindow h o.window)) t heard tt tt tt (reply_to net h (call.Join t heard))
opening-live net h (call.JoinReply t x) = answer-says (λ s. IfSome (first_opened s) (λ o. IsLiveWindow h o.window)) t x (λ n. tt) tt tt (reply_to net h (call.JoinReply t x))
opening-live net h (call.Close w) = close-says (λ s. IfSome (first_opened s) (λ o. IsLiveWindow h o.window)) w (λ ack. tt) tt (reply_to net h (call.Close w))
opening-live net h (call.Uplink frame heard) = uplink-has (λ r. IfSome (opening_in (call.Uplink frame heard) r) (λ o. IsLiveWindow h o.window)) net h frame (record {
  copied = λ o is room. tt;
  crowded = λ o is full. tt;
  opened = λ f none is room. (let fit = at_some (IsFit h) (first_fit above net h frame) f is (first_fit-live above net h frame) in record { lives = fit.lives; keyed = fit.keyed });
  again = λ f round none is confirmed next room. tt;
  busy = λ recover f is. tt;
  old = λ f is. tt;
  none = tt;
})

-- what a call closes was open
closing-open : (net : Network) (h : List Entry) (c : Call) → IfSome (closing_in c (reply_to net h c)) (λ x. is_some (open_window h x.window) ≡ true)
closing-open net h (call.Uplink frame heard) = uplink-says (λ s. IfSome (closed s) (λ x. is_some (open_window h x.window) ≡ true)) frame heard (λ w. tt) (λ w. tt) (λ w. tt) tt (reply_to net h (call.Uplink frame heard))
closing-open net h (call.Join t heard) = join-says (λ s. IfSome (closed s) (λ x. is_some (open_window h x.window) ≡ true)) t heard tt tt tt (reply_to net h (call.Join t heard))
closing-open net h (call.JoinReply t o) = answer-says (λ s. IfSome (closed s) (λ x. is_some (open_window h x.window) ≡ true)) t o (λ n. tt) tt tt (reply_to net h (call.JoinReply t o))
closing-open net h (call.Close w) = grind arith

-- ---- what a call adds to the openings and closings of a device

-- an opening in a live session
abbrev IsLiveOpening : List Entry → Opening → Type 0
IsLiveOpening h o = IsLiveWindow h o.window

pub record OpenClosing (h : List Entry) (eui : DevEui) (now : List Closing) : Type 0 where
  pub c : Closing
  pub joined : now ≡ closings h eui ++ c ∷ []
  pub device : c.window.eui ≡ eui
  pub was_open : is_some (open_window h c.window) ≡ true

pub closings-open : (net : Network) (h : List Entry) (number : ℕ) (c : Call) (eui : DevEui) →
    let now : List Closing = closings (with_call net h number c) eui in
    (now ≡ closings h eui) ⊎ OpenClosing h eui now
closings-open net h number c eui =
    let e : Entry = entry_for net h number c in
    let asked : Closing → Bool = λ x. same_device x.window.eui eui in
    let says : Entry → Option Closing = λ x. closing_in x.call x.reply in
    elim (said-adds says asked h e) [
      | inl same ↦ inl same
      | inr one ↦ inr (record {
        c = one.thing;
        joined = one.joined;
        device = same_device-eq one.thing.window.eui eui one.asked;
        was_open = at_some (λ x. is_some (open_window h x.window) ≡ true) (closing_in c (reply_to net h c)) one.thing one.says (closing-open net h c);
      })
    ]

-- an open window's session has keys
open-keyed : (h : List Entry) → SessionsHaveJoins h → (w : WindowName) → is_some (open_window h w) ≡ true → IsSome (session_join h w.eui w.session)
open-keyed h keyed w is =
    let has = find-has (λ (o : Opening). IsSome (session_join h o.window.eui o.window.session)) (λ (o : Opening). same_window o.window w) (open_windows h) keyed.of_windows in
    grind (arith, has, same_window-eq)

-- nothing is of a session that has no keys
pub none_of_session : {X : Type 0} (keys : ℕ → Option JoinAns) (session : X → ℕ) (n : ℕ) → keys n ≡ None → (xs : List X) → AllByRecursion (λ x. IsSome (keys (session x))) xs → filter (λ x. session x == n) xs ≡ []
none_of_session keys session n none [] all = refl
none_of_session keys session n none (x ∷ xs) all = grind (arith, nat_tests, all.0, none_of_session keys session n none xs all.1)

-- ---- every legal history

pub record SessionFacts (h : List Entry) : Type 0 where
  pub of_openings : (eui : DevEui) → AllByRecursion (λ o. IsSome (session_join h eui o.window.session)) (openings h eui)
  pub of_closings : (eui : DevEui) → AllByRecursion (λ c. IsSome (session_join h eui c.window.session)) (closings h eui)
  -- nothing was opened in the newest session, or it is the active one
  pub newest : (eui : DevEui) → IfSome (newest_session h eui) (λ y. (option_map (λ x. x == y) (active_session h eui) ≡ Some true) ⊎ (session_counters h eui y ≡ []))

-- each opening and each closing of the history with one call more is of a session that had keys
openings-keyed : (net : Network) (h : List Entry) (number : ℕ) (c : Call) → SessionFacts h → (eui : DevEui) → AllByRecursion (λ o. IsSome (session_join h eui o.window.session)) (openings (with_call net h number c) eui)
openings-keyed net h number c facts eui =
    let Keyed : Opening → Type 0 = λ o. IsSome (session_join h eui o.window.session) in
    elim (openings-cases (IsLiveOpening h) net h number c (opening-live net h c) eui) [
      | inl same ↦ subst (AllByRecursion Keyed) (sym same) (facts.of_openings eui)
      | inr new ↦
          subst (AllByRecursion Keyed) (sym new.joined)
          (All-push Keyed (openings h eui) new.o (facts.of_openings eui) (subst (λ (d : DevEui). IsSome (session_join h d new.o.window.session)) new.device new.new.keyed))
    ]

closings-keyed : (net : Network) (h : List Entry) (number : ℕ) (c : Call) → SessionsHaveJoins h → SessionFacts h → (eui : DevEui) → AllByRecursion (λ x. IsSome (session_join h eui x.window.session)) (closings (with_call net h number c) eui)
closings-keyed net h number c keyed facts eui =
    let Keyed : Closing → Type 0 = λ x. IsSome (session_join h eui x.window.session) in
    elim (closings-open net h number c eui) [
      | inl same ↦ subst (AllByRecursion Keyed) (sym same) (facts.of_closings eui)
      | inr new ↦
          subst (AllByRecursion Keyed) (sym new.joined)
          (All-push Keyed (closings h eui) new.c (facts.of_closings eui) (subst (λ (d : DevEui). IsSome (session_join h d new.c.window.session)) new.device (open-keyed h keyed new.c.window new.was_open)))
    ]

-- the counters of a session, with an opening in another
other_counters : (os : List Opening) (o : Opening) (y : ℕ) → (o.window.session == y) ≡ false →
    map (λ (x : Opening). x.window.fcnt) (filter (λ (x : Opening). x.window.session == y) os) ≡ [] → map (λ (x : Opening). x.window.fcnt) (filter (λ (x : Opening). x.window.session == y) (os ++ o ∷ [])) ≡ []
other_counters os o y differs none = grind (arith, filter-append, append-nil)

newest_step : (net : Network) (h : List Entry) (number : ℕ) (c : Call) → SessionFacts h → (eui : DevEui) →
    IfSome (newest_session (with_call net h number c) eui) (λ y. (option_map (λ x. x == y) (active_session (with_call net h number c) eui) ≡ Some true) ⊎ (session_counters (with_call net h number c) eui y ≡ []))
newest_step net h number c facts eui =
    let now : List Entry = with_call net h number c in
    let Fine : List Acceptance → List Opening → Type 0 = λ joins os. IfSome (option_map (λ (a : Acceptance). a.session) (last joins)) (λ y. (option_map (λ x. x == y) (option_map (λ (o : Opening). o.window.session) (last os)) ≡ Some true) ⊎ (map (λ (o : Opening). o.window.fcnt) (filter (λ (o : Opening). o.window.session == y) os) ≡ [])) in
    elim (acceptances-cases net h number c eui) [
      | inr joined ↦
          (let unused = none_of_session (session_join h eui) (λ (o : Opening). o.window.session) joined.a.session (ap (session_join h eui) joined.session ∙ session_join-next h eui) (openings now eui) (openings-keyed net h number c facts eui) in
          subst (λ joins. Fine joins (openings now eui)) (sym joined.joined) (grind (arith, unused, last-push (acceptances h eui) joined.a)))
      | inl same ↦ subst (λ joins. Fine joins (openings now eui)) (sym same) (elim (openings-cases (IsLiveOpening h) net h number c (opening-live net h c) eui) [
        | inl still ↦ subst (λ os. Fine (acceptances h eui) os) (sym still) (facts.newest eui)
        | inr new ↦ subst (λ os. Fine (acceptances h eui) os) (sym new.joined) (opened new)
      ])
    ]
  where
    opened : (new : AddedOpening (IsLiveOpening h) h eui (openings (with_call net h number c) eui)) →
        IfSome (newest_session h eui) (λ y. (option_map (λ x. x == y) (option_map (λ (o : Opening). o.window.session) (last (openings h eui ++ new.o ∷ []))) ≡ Some true)
        ⊎ (map (λ (o : Opening). o.window.fcnt) (filter (λ (o : Opening). o.window.session == y) (openings h eui ++ new.o ∷ [])) ≡ []))
    opened new =
        let lives : is_live h eui new.o.window.session ≡ true = subst (λ (d : DevEui). is_live h d new.o.window.session ≡ true) new.device new.new.lives in
        grind (arith, nat_tests, lives, facts.newest eui, last-push (openings h eui) new.o, other_counters (openings h eui) new.o)

pub session_facts : (net : Network) (h : List Entry) → IsLegal net h → SessionFacts h
session_facts net h legal =
    legal_induction net SessionFacts (record { of_openings = λ eui. tt; of_closings = λ eui. tt; newest = λ eui. tt })
    (λ g number c ok facts. record {
      of_openings = λ eui.
          All-weaker (λ (o : Opening). IsSome (session_join g eui o.window.session)) (λ (o : Opening). IsSome (session_join (with_call net g number c) eui o.window.session))
          (λ o has. has_join-stays g (entry_for net g number c) eui o.window.session has) (openings (with_call net g number c) eui) (openings-keyed net g number c facts eui);
      of_closings = λ eui.
          All-weaker (λ (x : Closing). IsSome (session_join g eui x.window.session)) (λ (x : Closing). IsSome (session_join (with_call net g number c) eui x.window.session))
          (λ x has. has_join-stays g (entry_for net g number c) eui x.window.session has) (closings (with_call net g number c) eui) (closings-keyed net g number c (sessions_have_joins net g ok) facts eui);
      newest = λ eui. newest_step net g number c facts eui;
    }) h legal
