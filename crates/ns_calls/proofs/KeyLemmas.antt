-- The join server's answer that made a session.
use Rattle.std.proofs.Common.{◌≡◌, ℕ, ◌+◌, ◌<◌, ◌==◌, Bool, true, false, not, cond, List, [], ◌∷◌, ◌++◌, map, find, unwrap_or, Option, None, Some, IfSome, option_map, refl, sym, ap, subst, ◌∙◌, arith, inl, inr}
use Rattle.std.proofs.lemmas.Bool.{cond_both, eq-eqb}
use Rattle.std.specs.Prelude.{IsSome, is_some}
use Rattle.std.specs.List.{AllByRecursion}
use Rattle.std.specs.Option.{option_or, option_map_or}
use Rattle.std.proofs.lemmas.List.Folds.{find-append}
use Rattle.std.proofs.lemmas.Bool.Decides.{nat_tests}
use Rattle.ns_types.specs.declared.identity.DevEui.{DevEui}
use Rattle.ns_types.specs.declared.identity.WindowName.{WindowName}
use Rattle.ns_secure.specs.Integrity.{mic_fits}
use Rattle.ns_secure.specs.Counter.{Exceeds}
use Rattle.ns_roster.specs.Network.{Network}
use Rattle.ns_calls.specs.declared.call.JoinAns.{JoinAns}
use Rattle.ns_calls.specs.declared.call.Call.{Call}
use Rattle.ns_calls.specs.declared.call.Entry.{Entry}
use Rattle.ns_calls.specs.Queries.{last, maximum}
use Rattle.ns_calls.specs.Entries.{Acceptance, Opening, acceptances, openings, same_device, open_windows, closes}
use Rattle.ns_calls.proofs.Says.{acceptance_in, window_in}
use Rattle.ns_calls.specs.History.{session_join, next_session, active_session, newest_session, first_and_other}
use Rattle.ns_calls.specs.Reply.{reply_to}
use Rattle.ns_calls.specs.Legal.{IsLegal, entry_for, with_call}
use Rattle.ns_calls.specs.Headline.{SessionsHaveJoins, fits}
use Rattle.ns_calls.proofs.QueryLemmas.{still_open-push}
use Rattle.ns_calls.proofs.Lists.{said, said-push, All-push, All-after, All-weaker, All-map, IfSome-weaker, last-has, find-none, Exceeds-each}
use Rattle.ns_calls.proofs.Induction.{legal_induction}
use Rattle.ns_calls.proofs.UplinkLemmas.{IsNewOpening, IsOpened, opening-new, window-new, openings-cases}

-- the answer of a session stays once it is there
kept : (o p : Option Acceptance) (join : JoinAns) → option_map (λ (a : Acceptance). a.join_ans) o ≡ Some join → option_map (λ (a : Acceptance). a.join_ans) (option_or o p) ≡ Some join
kept None p join is = absurd (cc is)
kept (Some a) p join is = is

pub session_join-stays : (h : List Entry) (e : Entry) (eui : DevEui) (session : ℕ) (join : JoinAns) → session_join h eui session ≡ Some join → session_join (h ++ e ∷ []) eui session ≡ Some join
session_join-stays h e eui session join is =
    let test : Acceptance → Bool = λ a. a.session == session in
    let asked : Acceptance → Bool = λ a. same_device a.eui eui in
    let says : Entry → Option Acceptance = λ x. acceptance_in x.call x.reply in
    let new : List Acceptance = said says asked e in
    ap (λ joins. option_map (λ (a : Acceptance). a.join_ans) (find test joins)) (said-push says asked h e)
    ∙ (ap (option_map (λ (a : Acceptance). a.join_ans)) (find-append test (acceptances h eui) new)
    ∙ kept (find test (acceptances h eui)) (find test new) join is)

pub has_join-stays : (h : List Entry) (e : Entry) (eui : DevEui) (session : ℕ) → IsSome (session_join h eui session) → IsSome (session_join (h ++ e ∷ []) eui session)
has_join-stays h e eui session has =
    (elim (session_join h eui session) as (λ o. session_join h eui session ≡ o → IsSome o → IsSome (session_join (h ++ e ∷ []) eui session)) [
      | None ↦ λ _ none. absurd (cc none)
      | Some join ↦ λ is _. ap is_some (session_join-stays h e eui session join is)
    ]) refl has

-- a join that is accepted makes a session of its own
pub below_next : (sessions : Option ℕ) → Exceeds sessions (unwrap_or sessions 0 + 1)
below_next None = tt
below_next (Some s) = omega arith

pub next_session-new : (h : List Entry) (eui : DevEui) → find (λ a. a.session == next_session h eui) (acceptances h eui) ≡ None
next_session-new h eui =
    let sessions : List ℕ = map (λ (a : Acceptance). a.session) (acceptances h eui) in
    let below = All-map (λ s. s < next_session h eui) (λ (a : Acceptance). a.session) (acceptances h eui) (Exceeds-each sessions _ (below_next (maximum sessions))) in
    find-none (λ (a : Acceptance). a.session == next_session h eui) (acceptances h eui)
    (All-weaker (λ (a : Acceptance). a.session < next_session h eui) (λ (a : Acceptance). (a.session == next_session h eui) ≡ false) (λ a less. grind (arith, nat_tests)) (acceptances h eui) below)

-- ---- live sessions and open windows

-- each acceptance is found by its session
found-member : (joins : List Acceptance) → AllByRecursion (λ a. is_some (find (λ (b : Acceptance). b.session == a.session) joins) ≡ true) joins
found-member [] = tt
found-member (x ∷ xs) = (
  ap (λ b. is_some (cond {A = Option Acceptance} b (Some x) (find (λ (c : Acceptance). c.session == x.session) xs))) (eq-eqb x.session x.session refl),
  All-weaker (λ (a : Acceptance). is_some (find (λ (b : Acceptance). b.session == a.session) xs) ≡ true) (λ (a : Acceptance). is_some (find (λ (b : Acceptance). b.session == a.session) (x ∷ xs)) ≡ true)
      (λ a later. cond_both (x.session == a.session) (Some x) (find (λ (b : Acceptance). b.session == a.session) xs) (λ o. is_some o ≡ true) (λ _. refl) (λ _. later)) xs (found-member xs),
)

pub is_some-map : {X Y : Type 0} (f : X → Y) (o : Option X) → is_some (option_map f o) ≡ is_some o
is_some-map f None = refl
is_some-map f (Some x) = refl

-- what holds of a device's openings, and of the open windows
record AreKeyed (h : List Entry) : Type 0 where
  of_openings : (eui : DevEui) → AllByRecursion (λ o. IsSome (session_join h eui o.window.session)) (openings h eui)
  of_windows : AllByRecursion (λ o. IsSome (session_join h o.window.eui o.window.session)) (open_windows h)

-- a window whose MIC fits has the key of its session
fits-keyed : (h : List Entry) (frame : List ℕ) (w : WindowName) → fits h frame w ≡ true → IsSome (session_join h w.eui w.session)
fits-keyed h frame w fit =
    (elim (session_join h w.eui w.session) as (λ o. option_map_or (λ (join : JoinAns). mic_fits frame join.nwk.0 w.fcnt) o false ≡ true → IsSome o) [
      | None ↦ λ is. absurd (cc is)
      | Some join ↦ λ _. refl
    ]) fit

keyed_step : (net : Network) (h : List Entry) (number : ℕ) (c : Call) → AreKeyed h → AreKeyed (with_call net h number c)
keyed_step net h number c keyed = record {
  of_openings = λ eui.
      (let Keyed : Opening → Type 0 = λ o. IsSome (session_join now eui o.window.session) in
      let old : AllByRecursion Keyed (openings h eui) =
      All-weaker (λ (o : Opening). IsSome (session_join h eui o.window.session)) Keyed (λ o has. has_join-stays h e eui o.window.session has) (openings h eui) (keyed.of_openings eui) in
      elim (openings-cases (IsNewOpening h) net h number c (opening-new net h c) eui) [
        | inl same ↦ subst (AllByRecursion Keyed) (sym same) old
        | inr new ↦
            (let has : IsSome (session_join h eui new.o.window.session) =
            subst (λ (d : DevEui). IsSome (session_join h d new.o.window.session)) new.device (fits-keyed h new.o.frame new.o.window new.new.fresh.mic) in
            subst (AllByRecursion Keyed) (sym new.joined) (All-push Keyed (openings h eui) new.o old (has_join-stays h e eui new.o.window.session has)))
      ]);
  of_windows =
      (let Keyed : Opening → Type 0 = λ o. IsSome (session_join now o.window.eui o.window.session) in
      let old : AllByRecursion Keyed (open_windows h) =
      All-weaker (λ (o : Opening). IsSome (session_join h o.window.eui o.window.session)) Keyed (λ o has. has_join-stays h e o.window.eui o.window.session has) (open_windows h) keyed.of_windows in
      subst (AllByRecursion Keyed) (sym (still_open-push (λ (x : Entry). window_in x.call x.reply) (λ (o : Opening) x. closes o.window x) h e))
      (All-after Keyed (λ (o : Opening). not (closes o.window e)) (open_windows h) (window_in c (reply_to net h c)) old
      (IfSome-weaker (IsOpened h c (reply_to net h c)) Keyed (window_in c (reply_to net h c)) opened (window-new net h c))));
}
  where
    e : Entry
    e = entry_for net h number c

    now : List Entry
    now = with_call net h number c

    opened : (o : Opening) → IsOpened h c (reply_to net h c) o → IsSome (session_join (with_call net h number c) o.window.eui o.window.session)
    opened o (inl new) = has_join-stays h (entry_for net h number c) o.window.eui o.window.session (fits-keyed h o.frame o.window new.1.fresh.mic)
    opened o (inr next) = has_join-stays h (entry_for net h number c) o.window.eui o.window.session (fits-keyed h o.frame o.window next.1.mic)

live-All : (P : ℕ → Type 0) (a b : Option ℕ) → IfSome a P → IfSome b P → AllByRecursion P (first_and_other a b)
live-All P None None one other = tt
live-All P None (Some y) one other = (other, tt)
live-All P (Some x) None one other = (one, tt)
live-All P (Some x) (Some y) one other = cond_both (x == y) (x ∷ []) (x ∷ y ∷ []) (AllByRecursion P) (λ _. (one, tt)) (λ _. (one, (other, tt)))

pub IfSome-map : {X Y : Type 0} (P : Y → Type 0) (f : X → Y) (o : Option X) → IfSome o (λ x. P (f x)) → IfSome (option_map f o) P
IfSome-map P f None holds = tt
IfSome-map P f (Some x) holds = holds

pub sessions_have_joins : (net : Network) (h : List Entry) → IsLegal net h → SessionsHaveJoins h
sessions_have_joins net h legal =
    let keyed : AreKeyed h = legal_induction net AreKeyed (record { of_openings = λ eui. tt; of_windows = tt }) (λ g number c ok is. keyed_step net g number c is) h legal in
    record {
      of_live = λ eui.
          (let Keyed : ℕ → Type 0 = λ s. IsSome (session_join h eui s) in
          let active = IfSome-map Keyed (λ (o : Opening). o.window.session) (last (openings h eui)) (last-has (λ (o : Opening). Keyed o.window.session) (openings h eui) (keyed.of_openings eui)) in
          let each = All-weaker (λ (a : Acceptance). is_some (find (λ (b : Acceptance). b.session == a.session) (acceptances h eui)) ≡ true) (λ (a : Acceptance). Keyed a.session)
          (λ a is. is_some-map (λ (b : Acceptance). b.join_ans) (find (λ (b : Acceptance). b.session == a.session) (acceptances h eui)) ∙ is) (acceptances h eui) (found-member (acceptances h eui)) in
          let newest = IfSome-map Keyed (λ (a : Acceptance). a.session) (last (acceptances h eui)) (last-has (λ (a : Acceptance). Keyed a.session) (acceptances h eui) each) in
          live-All Keyed (active_session h eui) (newest_session h eui) active newest);
      of_windows = keyed.of_windows;
    }

pub session_join-next : (h : List Entry) (eui : DevEui) → session_join h eui (next_session h eui) ≡ None
session_join-next h eui = ap (option_map (λ (a : Acceptance). a.join_ans)) (next_session-new h eui)
