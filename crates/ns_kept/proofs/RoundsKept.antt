-- A part of a legal history in which what matters is kept tells the last round of each live session's greatest counter.
use Rattle.std.proofs.Common.{◌≡◌, ◌⊎◌, ℕ, ◌+◌, ◌<◌, ◌≤◌, ◌==◌, Bool, true, false, ◌&&◌, cond, List, [], ◌∷◌, ◌++◌, filter, filter_map, map, unwrap_or, Option, None, Some, IfSome, option_to_list, refl, sym, ap, subst, ◌∙◌, arith, inl, inr}
use Rattle.std.specs.List.{AllByRecursion, list_any, cons_option}
use Rattle.std.specs.Option.{option_map_or}
use Rattle.std.proofs.lemmas.List.{append-nil}
use Rattle.std.proofs.lemmas.Bool.{or_parts, not-false, cond-true}
use Rattle.std.proofs.lemmas.Bool.Decides.{nat_tests}
use Rattle.ns_types.specs.declared.identity.DevEui.{DevEui}
use Rattle.ns_types.specs.declared.identity.WindowName.{WindowName}
use Rattle.ns_types.specs.Identity.{same_uplink}
use Rattle.ns_secure.specs.Counter.{Exceeds}
use Rattle.ns_roster.specs.Network.{Network}
use Rattle.ns_calls.specs.declared.call.Call.{Call}
use Rattle.ns_calls.specs.declared.call.Reply.{Reply}
use Rattle.ns_calls.specs.declared.call.Entry.{Entry}
use Rattle.ns_calls.specs.Queries.{maximum}
use Rattle.ns_calls.specs.Entries as entries
use Rattle.ns_calls.specs.Entries.{Opening, same_device, session_counters, first_opened, Said, said}
use Rattle.ns_calls.proofs.Says.{window_in}
use Rattle.ns_calls.specs.History.{greatest_counter, first_window, rounds, last_round, is_live}
use Rattle.ns_calls.specs.Reply.{reply_to}
use Rattle.ns_calls.specs.Legal.{IsLegal, entry_for, with_call}
use Rattle.ns_calls.specs.Laws.{Rises}
use Rattle.ns_calls.specs.Headline.{Reaches, session_round}
use Rattle.ns_calls.proofs.LocalLemmas.{bool_tells}
use Rattle.ns_calls.proofs.Lists.{All-push, All-weaker, Exceeds-each, Rises-push}
use Rattle.ns_calls.proofs.Induction.{legal_induction}
use Rattle.ns_calls.proofs.NameLemmas.{both_hold, same_uplink-eq}
use Rattle.ns_calls.proofs.UplinkLemmas.{IsOpened, window-new, counters_rise}
use Rattle.ns_calls.proofs.RoundLemmas.{opened, HasReached, counters_reach, opened-push, first-apart, rounds-push, rounds-same, filter-none}
use Rattle.ns_kept.specs.Kept.{same_session, is_kept, repeated}
use Rattle.ns_kept.proofs.Within.{Within, HasSome, AreIdle, maximum-within, maximum-within-at, any-weaker, any-weaker-at, Adds-map, Adds-filter, All-rest}
use Rattle.ns_kept.proofs.Asked.{counters-adds, rounds-adds}
use Rattle.ns_kept.proofs.Dropped.{Dropped, dropped, and_false, counters-idle, same_both, any-has, Adds-same}
use Rattle.ns_kept.proofs.Says.{opening-window, repetition-window, window-either, in_class, any-said, said_one, says_so}
use Rattle.ns_kept.proofs.Alike.{All-both}

-- what entries say of some windows is said of all
pub any-window : (says : Said → Option Opening) → ((c : Call) (r : Reply) (o : Opening) → says (said c r) ≡ Some o → window_in c r ≡ Some o) → (test : Opening → Bool) →
    (es : List Entry) → list_any test (filter_map (λ e. says (said e.call e.reply)) es) ≡ true → list_any test (opened es) ≡ true
any-window says is_window test es any =
    sym (any-said entries.opened test es)
    ∙ any-weaker (in_class says test) (in_class entries.opened test)
    (λ e is. let one = said_one test (says (said e.call e.reply)) is in says_so test (window_in e.call e.reply) one.0 (is_window e.call e.reply one.0 one.1) one.2) es (any-said says test es ∙ any)

-- ---- in a session the counters of the windows never fall

-- each element is so to each after it
abbrev Pairwise : {X : Type 0} → (X → X → Type 0) → List X → Type 0
Pairwise R [] = Unit {0}
Pairwise R (x ∷ xs) = AllByRecursion (R x) xs × Pairwise R xs

Pairwise-push : {X : Type 0} (R : X → X → Type 0) (xs : List X) (y : X) → Pairwise R xs → AllByRecursion (λ x. R x y) xs → Pairwise R (xs ++ y ∷ [])
Pairwise-push R [] y pairs each = (tt, tt)
Pairwise-push R (x ∷ xs) y pairs each = (All-push (R x) xs y pairs.0 each.0, Pairwise-push R xs y pairs.1 each.1)

-- the later window has no lower counter, where it is of the same session
abbrev NoLower : Opening → Opening → Type 0
NoLower o p = same_session p.window o.window ≡ true → o.window.fcnt ≤ p.window.fcnt

-- the greatest counter of the window's session
abbrev greatest_of : List Entry → WindowName → Option ℕ
greatest_of h w = greatest_counter h w.eui w.session

greatest-same : (h : List Entry) (v w : WindowName) → same_session v w ≡ true → greatest_of h v ≡ greatest_of h w
greatest-same h v w is =
    let same = same_both v.eui w.eui v.session w.session is in
    ap (λ (d : DevEui). greatest_counter h d v.session) same.0 ∙ ap (greatest_counter h w.eui) same.1

reached-by : (a : Option ℕ) (m n : ℕ) → Reaches a m → Exceeds a n → m ≤ n
reached-by None m n reaches exceeds = absurd reaches
reached-by (Some a) m n reaches exceeds = omega (arith, reaches, exceeds)

-- what a call opens has a counter that is at least those that its session has reached
opened-above : (h : List Entry) (c : Call) (r : Reply) (p : Opening) → IsOpened h c r p → (m : ℕ) → Reaches (greatest_of h p.window) m → m ≤ p.window.fcnt
opened-above h c r p (inl first) m reaches = reached-by (greatest_of h p.window) m p.window.fcnt reaches first.1.fresh.counter
opened-above h c r p (inr next) m reaches = subst (λ a. Reaches a m) next.1.counter reaches

never_fall : (net : Network) (h : List Entry) → IsLegal net h → Pairwise NoLower (opened h)
never_fall net h legal = legal_induction net (λ g. Pairwise NoLower (opened g)) tt step h legal
  where
    more : (g : List Entry) (c : Call) (r : Reply) → AllByRecursion (HasReached g) (opened g) → Pairwise NoLower (opened g) → (o : Option Opening) → IfSome o (IsOpened g c r) → Pairwise NoLower (opened g ++ option_to_list o)
    more g c r reach falls None is = rw append-nil falls
    more g c r reach falls (Some p) is =
        Pairwise-push NoLower (opened g) p falls
        (All-weaker (HasReached g) (λ o. NoLower o p) (λ o reached same. opened-above g c r p is o.window.fcnt (subst (λ a. Reaches a o.window.fcnt) (sym (greatest-same g p.window o.window same)) reached)) (opened g) reach)

    step : (g : List Entry) (number : ℕ) (c : Call) → IsLegal net g → Pairwise NoLower (opened g) → Pairwise NoLower (opened (with_call net g number c))
    step g number c ok falls =
        subst (Pairwise NoLower) (sym (opened-push g (entry_for net g number c)))
        (more g c (reply_to net g c) (counters_reach net g ok) falls (window_in c (reply_to net g c)) (window-new net g c))

-- ---- the rounds of an uplink rise

above_last : (a : Option ℕ) → Exceeds a (unwrap_or a 0 + 1)
above_last None = tt
above_last (Some n) = omega arith

-- a window that is opened has a round above those of its uplink
rounds-below : (net : Network) (h : List Entry) → IsLegal net h → (c : Call) (r : Reply) (o : Opening) → IsOpened h c r o → AllByRecursion (λ n. n < o.window.round) (rounds h o.window)
rounds-below net h legal c r o (inl first) =
    let none : rounds h o.window ≡ [] = ap (map (λ (x : Opening). x.window.round)) (filter-none (λ (x : Opening). same_uplink x.window o.window) (opened h) (first-apart net h legal o first.1)) in
    subst (AllByRecursion (λ n. n < o.window.round)) (sym none) tt
rounds-below net h legal c r o (inr next) =
    Exceeds-each (rounds h o.window) o.window.round (subst (Exceeds (maximum (rounds h o.window))) (sym next.1.next) (above_last (maximum (rounds h o.window))))

rounds_rise : (net : Network) (h : List Entry) → IsLegal net h → (w : WindowName) → Rises (rounds h w)
rounds_rise net h legal = legal_induction net (λ g. (w : WindowName) → Rises (rounds g w)) (λ w. tt) step h legal
  where
    more : (g : List Entry) (c : Call) (r : Reply) (w : WindowName) → IsLegal net g → Rises (rounds g w) → (o : Option Opening) → IfSome o (IsOpened g c r) →
        Rises (rounds g w ++ map (λ (x : Opening). x.window.round) (filter (λ (x : Opening). same_uplink x.window w) (option_to_list o)))
    more g c r w ok rises None is = rw append-nil rises
    more g c r w ok rises (Some o) is =
        elim (bool_tells (same_uplink o.window w)) [
          | inr other ↦ subst (λ b. Rises (rounds g w ++ map (λ (x : Opening). x.window.round) (cond {A = List Opening} b (o ∷ []) []))) (sym other) (rw append-nil rises)
          | inl same ↦
              (let below : AllByRecursion (λ n. n < o.window.round) (rounds g w) = subst (AllByRecursion (λ n. n < o.window.round)) (rounds-same g o.window w same) (rounds-below net g ok c r o is) in
              subst (λ b. Rises (rounds g w ++ map (λ (x : Opening). x.window.round) (cond {A = List Opening} b (o ∷ []) []))) (sym same) (Rises-push (rounds g w) o.window.round rises below))
        ]

    step : (g : List Entry) (number : ℕ) (c : Call) → IsLegal net g → ((w : WindowName) → Rises (rounds g w)) → (w : WindowName) → Rises (rounds (with_call net g number c) w)
    step g number c ok rises w =
        subst Rises (sym (rounds-push g (entry_for net g number c) w)) (more g c (reply_to net g c) w ok (rises w) (window_in c (reply_to net g c)) (window-new net g c))

-- ---- the rounds of a live session's greatest counter

-- where one of these elements passes a test, and whatever passes it is good, there is one that is good
some-good : {Y Z : Type 0} (f : Y → Z) (test good : Y → Bool) (ys : List Y) → AllByRecursion (λ y. test y ≡ true → good y ≡ true) ys → list_any test ys ≡ true → HasSome (map f (filter good ys))
some-good f test good ys all any =
    any-has (λ zs. map f (filter good zs)) (Adds-map f _ (Adds-filter good _ Adds-same)) good (λ y is. (f y, [], ap (map f) (cond-true _ _ _ is))) ys (any-weaker-at test good ys all any)

at_most : (a : Option ℕ) (m n : ℕ) → Reaches a m → a ≡ Some n → m ≤ n
at_most a m n reaches is = subst (λ b. Reaches b m) is reaches

-- windows of one session, of which neither has the lower counter, are of one uplink
one-uplink : (v w : WindowName) → same_session v w ≡ true → w.fcnt ≤ v.fcnt → v.fcnt ≤ w.fcnt → same_uplink v w ≡ true
one-uplink v w same lower upper =
    let counter : (v.fcnt == w.fcnt) ≡ true = grind (arith, nat_tests, lower, upper) in
    both_hold (same_session v w) (v.fcnt == w.fcnt) same counter

-- what is known of the last entries of a history
record Lasts (h : List Entry) (es : List Entry) : Type 0 where
  falls : Pairwise NoLower (opened es)
  reach : AllByRecursion (HasReached h) (opened es)

lasts-rest : (h : List Entry) (x : Entry) (xs : List Entry) → Lasts h (x ∷ xs) → Lasts h xs
lasts-rest h x xs lasts = record { falls = fall (window_in x.call x.reply) lasts.falls; reach = All-rest (HasReached h) (window_in x.call x.reply) (opened xs) lasts.reach }
  where
    fall : (o : Option Opening) → Pairwise NoLower (cons_option o (opened xs)) → Pairwise NoLower (opened xs)
    fall None all = all
    fall (Some o) all = all.1

-- what is missing was followed by another window of its session
followed : (h : List Entry) (x : Entry) (xs : List Entry) → Dropped h x xs → (o : Opening) → window_in x.call x.reply ≡ Some o → is_live h o.window.eui o.window.session ≡ true → list_any (λ p. same_session p.window o.window) (opened xs) ≡ true
followed h x xs gone o says lives =
    elim (window-either x.call x.reply o says) [
      | inl first ↦ any-window first_opened opening-window (λ (p : Opening). same_session p.window o.window) xs (not-false _ (and_false _ _ (or_parts _ _ (gone.opening o first)).1 lives))
      | inr next ↦ any-window repeated repetition-window (λ (p : Opening). same_session p.window o.window) xs (not-false _ (and_false _ _ (gone.repetition o next) lives))
    ]

rounds-idle : (h : List Entry) (w : WindowName) → is_live h w.eui w.session ≡ true → greatest_of h w ≡ Some w.fcnt → (es : List Entry) → Lasts h es → AreIdle (is_kept h) (λ xs. rounds xs w) es
rounds-idle h w lives greatest [] lasts = tt
rounds-idle h w lives greatest (x ∷ xs) lasts = (here, rounds-idle h w lives greatest xs (lasts-rest h x xs lasts))
  where
    round : Opening → ℕ
    round o = o.window.round

    of_uplink : Opening → Bool
    of_uplink o = same_uplink o.window w

    later : (o : Opening) → AllByRecursion (NoLower o) (opened xs) → same_uplink o.window w ≡ true → list_any (λ (p : Opening). same_session p.window o.window) (opened xs) ≡ true → HasSome (rounds xs w)
    later o falls same any =
        let is = same_uplink-eq o.window w same in
        some-good round (λ (p : Opening). same_session p.window o.window) of_uplink (opened xs)
        (All-both (NoLower o) (HasReached h) (λ (p : Opening). same_session p.window o.window ≡ true → of_uplink p ≡ true)
        (λ p above reached session.
        let mine : same_session p.window w ≡ true = subst (λ (d : DevEui). (same_device p.window.eui d && (p.window.session == w.session)) ≡ true) is.eui (subst (λ s. (same_device p.window.eui o.window.eui && (p.window.session == s)) ≡ true) is.session session) in
        let least : w.fcnt ≤ p.window.fcnt = subst (λ n. n ≤ p.window.fcnt) is.fcnt (above session) in
        let most : p.window.fcnt ≤ w.fcnt = at_most (greatest_of h p.window) p.window.fcnt w.fcnt reached (greatest-same h p.window w mine ∙ greatest) in
        one-uplink p.window w mine least most)
        (opened xs) falls (lasts-rest h x xs lasts).reach)
        any

    step : (o : Option Opening) → window_in x.call x.reply ≡ o → Pairwise NoLower (cons_option o (opened xs)) → is_kept h x xs ≡ false → (map round (filter of_uplink (cons_option o [])) ≡ []) ⊎ HasSome (rounds xs w)
    step None says falls is = inl refl
    step (Some o) says falls is =
        elim (bool_tells (of_uplink o)) [
          | inr other ↦ inl (ap (λ b. map round (cond {A = List Opening} b (o ∷ []) [])) other)
          | inl same ↦
              (let one = same_uplink-eq o.window w same in
              let live_one : is_live h o.window.eui o.window.session ≡ true = subst (λ (d : DevEui). is_live h d o.window.session ≡ true) (sym one.eui) (subst (λ s. is_live h w.eui s ≡ true) (sym one.session) lives) in
              inr (later o falls.0 same (followed h x xs (dropped h x xs is) o says live_one)))
        ]

    here : is_kept h x xs ≡ false → (rounds (x ∷ []) w ≡ []) ⊎ HasSome (rounds xs w)
    here is = step (window_in x.call x.reply) refl lasts.falls is

pub rounds-within : (net : Network) (h : List Entry) → IsLegal net h → (eui : DevEui) (session n : ℕ) → is_live h eui session ≡ true → greatest_counter h eui session ≡ Some n → (ks : List Entry) → Within (is_kept h) ks h →
    maximum (rounds ks (first_window eui session n)) ≡ maximum (rounds h (first_window eui session n))
rounds-within net h legal eui session n lives greatest ks within =
    let w : WindowName = first_window eui session n in
    let lasts : Lasts h h = record { falls = never_fall net h legal; reach = counters_reach net h legal } in
    maximum-within-at (is_kept h) (λ es. rounds es w) (rounds-adds w) ks h within (rounds-idle h w lives greatest h lasts) (rounds_rise net h legal w)

pub counters-within : (net : Network) (h : List Entry) → IsLegal net h → (eui : DevEui) (session : ℕ) → is_live h eui session ≡ true → (ks : List Entry) → Within (is_kept h) ks h → greatest_counter ks eui session ≡ greatest_counter h eui session
counters-within net h legal eui session lives ks within =
    maximum-within (is_kept h) (λ es. session_counters es eui session) (counters-adds eui session) (counters-idle h eui session lives) ks h within (counters_rise net h legal eui session)

-- histories with one greatest counter of a session, and with the same greatest round of it
pub session_round-same : (g h : List Entry) (eui : DevEui) (session : ℕ) → greatest_counter g eui session ≡ greatest_counter h eui session →
    ((n : ℕ) → greatest_counter h eui session ≡ Some n → maximum (rounds g (first_window eui session n)) ≡ maximum (rounds h (first_window eui session n))) → session_round g eui session ≡ session_round h eui session
session_round-same g h eui session counter same = ap (λ o. option_map_or (λ n. last_round g (first_window eui session n)) o 0) counter ∙ step (greatest_counter h eui session) same
  where
    step : (o : Option ℕ) → ((n : ℕ) → o ≡ Some n → maximum (rounds g (first_window eui session n)) ≡ maximum (rounds h (first_window eui session n))) →
        option_map_or (λ n. last_round g (first_window eui session n)) o 0 ≡ option_map_or (λ n. last_round h (first_window eui session n)) o 0
    step None each = refl
    step (Some n) each = ap (λ a. unwrap_or a 0) (each n refl)
