-- The windows that a legal history opens, in any round, are new.
use Rattle.std.proofs.Common.{◌≡◌, ℕ, ◌+◌, ◌<◌, ◌≤◌, ◌==◌, Bool, true, false, not, ◌&&◌, cond, max, List, [], ◌∷◌, ◌++◌, filter, filter_map, map, count_by, unwrap_or, Option, None, Some, IfSome, option_to_list, refl, sym, ap, subst, ◌∙◌, arith, inl, inr}
use Rattle.std.specs.List.{AllByRecursion, list_any, cons_option}
use Rattle.std.proofs.lemmas.List.{append-nil, map-append}
use Rattle.std.proofs.lemmas.List.Elements.{filter-append, filter_agree}
use Rattle.std.proofs.lemmas.Bool.{eq-eqb, cases_lt, false_from_ne_true}
use Rattle.ns_types.specs.declared.identity.DevEui.{DevEui}
use Rattle.ns_types.specs.declared.identity.WindowName.{WindowName}
use Rattle.ns_types.specs.Identity.{same_uplink, same_window}
use Rattle.ns_secure.specs.Counter.{Exceeds}
use Rattle.ns_roster.specs.Network.{Network}
use Rattle.ns_calls.specs.declared.call.Call.{Call}
use Rattle.ns_calls.specs.declared.call.Reply.{Reply}
use Rattle.ns_calls.specs.declared.call.Entry.{Entry}
use Rattle.ns_calls.specs.Queries.{greater, maximum}
use Rattle.ns_calls.specs.Entries.{Opening, openings, same_device, session_counters, closes, open_windows}
use Rattle.ns_calls.proofs.Says.{opening_in, window_in, opening-window}
use Rattle.ns_calls.specs.History.{greatest_counter, rounds, last_round}
use Rattle.ns_calls.specs.Reply.{reply_to}
use Rattle.ns_calls.specs.Legal.{IsLegal, entry_for, with_call}
use Rattle.ns_calls.specs.Headline.{Reaches, RoundsAreCounted}
use Rattle.ns_calls.specs.Laws.{opening_count}
use Rattle.ns_calls.proofs.LocalLemmas.{All-each}
use Rattle.ns_calls.proofs.QueryLemmas.{maximum-push}
use Rattle.ns_calls.proofs.Lists.{says-push, All-option, IfSome-weaker, said, said-push, All-append, All-filter, All-passed, All-weaker, All-map, at_some, Exceeds-each, count-cons, count-kept}
use Rattle.ns_calls.proofs.PushLemmas.{openings-push, open_windows-push}
use Rattle.ns_calls.proofs.Induction.{legal_induction}
use Rattle.ns_calls.proofs.JoinLemmas.{below}
use Rattle.ns_calls.proofs.KeyLemmas.{below_next}
use Rattle.ns_calls.proofs.OpenLemmas.{none-each}
use Rattle.ns_calls.proofs.NameLemmas.{both_hold, same_uplink-apart, same_uplink-refl, same_uplink-eq, same_uplink-other, same_window-eq, same_window-uplink}
use Rattle.ns_calls.proofs.UplinkLemmas.{IsNewOpening, IsOpened, opening-new, window-new, counters-cases}

-- the windows that a history opened, in any round
abbrev pub opened : List Entry → List Opening
opened h = filter_map (λ e. window_in e.call e.reply) h

pub opened-push : (h : List Entry) (e : Entry) → opened (h ++ e ∷ []) ≡ opened h ++ option_to_list (window_in e.call e.reply)
opened-push h e = says-push (λ (x : Entry). window_in x.call x.reply) h e

-- ---- each window's counter is at most the greatest of its session

abbrev pub HasReached : List Entry → Opening → Type 0
HasReached h o = Reaches (greatest_counter h o.window.eui o.window.session) o.window.fcnt

abbrev pub CountersReach : List Entry → Type 0
CountersReach h = AllByRecursion (HasReached h) (opened h)

Reaches-more : (a : Option ℕ) (n m : ℕ) → Reaches a n → Reaches (greater a (Some m)) n
Reaches-more None n m reaches = absurd reaches
Reaches-more (Some a) n m reaches = omega (arith, reaches)

Reaches-new : (a : Option ℕ) (m : ℕ) → Reaches (greater a (Some m)) m
Reaches-new None m = omega arith
Reaches-new (Some a) m = omega arith

reach-grows : (net : Network) (h : List Entry) (number : ℕ) (c : Call) (o : Opening) → HasReached h o → HasReached (with_call net h number c) o
reach-grows net h number c o reaches =
    let eui : DevEui = o.window.eui in
    let session : ℕ = o.window.session in
    elim (counters-cases net h number c eui session) [
      | inl same ↦ subst (λ ns. Reaches (maximum ns) o.window.fcnt) (sym same) reaches
      | inr more ↦
          subst (λ ns. Reaches (maximum ns) o.window.fcnt) (sym more.1)
          (subst (λ g. Reaches g o.window.fcnt) (sym (maximum-push (session_counters h eui session) more.0)) (Reaches-more (greatest_counter h eui session) o.window.fcnt more.0 reaches))
    ]

-- the counter that an entry adds to its session
pub session_counters-new : (h : List Entry) (e : Entry) (o : Opening) → opening_in e.call e.reply ≡ Some o →
    session_counters (h ++ e ∷ []) o.window.eui o.window.session ≡ session_counters h o.window.eui o.window.session ++ o.window.fcnt ∷ []
session_counters-new h e o is =
    rw (openings-push h e o.window.eui, is, eq-eqb o.window.eui.0 o.window.eui.0 refl, filter-append, eq-eqb o.window.session o.window.session refl, map-append)

counters_reach_step : (net : Network) (h : List Entry) (number : ℕ) (c : Call) → CountersReach h → CountersReach (with_call net h number c)
counters_reach_step net h number c reach =
    subst (AllByRecursion (HasReached now)) (sym (opened-push h (entry_for net h number c)))
    (All-append (HasReached now) (opened h) (option_to_list (window_in c r)) (All-weaker (HasReached h) (HasReached now) (reach-grows net h number c) (opened h) reach)
    (All-option (HasReached now) (window_in c r) (IfSome-weaker (IsOpened h c r) (HasReached now) (window_in c r) reached (window-new net h c))))
  where
    r : Reply
    r = reply_to net h c

    now : List Entry
    now = with_call net h number c

    reached : (o : Opening) → IsOpened h c r o → HasReached now o
    reached o (inl first) =
        subst (λ ns. Reaches (maximum ns) o.window.fcnt) (sym (session_counters-new h (entry_for net h number c) o first.0))
        (subst (λ g. Reaches g o.window.fcnt) (sym (maximum-push (session_counters h o.window.eui o.window.session) o.window.fcnt)) (Reaches-new (greatest_counter h o.window.eui o.window.session) o.window.fcnt))
    reached o (inr next) =
        let least : o.window.fcnt ≤ o.window.fcnt = omega arith in
        reach-grows net h number c o (subst (λ g. Reaches g o.window.fcnt) (sym next.1.counter) least)

pub counters_reach : (net : Network) (h : List Entry) → IsLegal net h → CountersReach h
counters_reach net h legal = legal_induction net CountersReach tt (λ g number c ok reach. counters_reach_step net g number c reach) h legal

-- ---- a window that is opened has a name of its own

pub count-none : {X : Type 0} (test : X → Bool) (xs : List X) → AllByRecursion (λ x. test x ≡ false) xs → count_by test xs ≡ 0
count-none test [] none = refl
count-none test (x ∷ xs) none = (let ih = count-none test xs none.1 in rw (count-cons, none.0) (omega (arith, ih)))

-- no window was opened of an uplink with a new counter
pub new-apart : (net : Network) (h : List Entry) → IsLegal net h → (w : WindowName) → Exceeds (greatest_counter h w.eui w.session) w.fcnt → AllByRecursion (λ x. same_uplink x.window w ≡ false) (opened h)
new-apart net h legal w exceeds =
    All-weaker (HasReached h) (λ (x : Opening). same_uplink x.window w ≡ false) apart (opened h) (counters_reach net h legal)
  where
    apart : (x : Opening) → HasReached h x → same_uplink x.window w ≡ false
    apart x reached = false_from_ne_true (same_uplink x.window w) (λ same.
        let is = same_uplink-eq x.window w same in
        let there : Reaches (greatest_counter h w.eui x.window.session) x.window.fcnt = subst (λ (d : DevEui). Reaches (greatest_counter h d x.window.session) x.window.fcnt) is.eui reached in
        let here : Reaches (greatest_counter h w.eui w.session) x.window.fcnt = subst (λ s. Reaches (greatest_counter h w.eui s) x.window.fcnt) is.session there in
        let less : x.window.fcnt < w.fcnt = below (greatest_counter h w.eui w.session) x.window.fcnt w.fcnt here exceeds in
        let equal : x.window.fcnt ≡ w.fcnt = is.fcnt in
        omega (arith, less, equal))

pub first-apart : (net : Network) (h : List Entry) → IsLegal net h → (o : Opening) → IsNewOpening h o → AllByRecursion (λ x. same_uplink x.window o.window ≡ false) (opened h)
first-apart net h legal o new = new-apart net h legal o.window new.fresh.counter

rounds-below : (h : List Entry) (w : WindowName) (round : ℕ) → round ≡ last_round h w + 1 → AllByRecursion (λ (o : Opening). o.window.round < round) (filter (λ (o : Opening). same_uplink o.window w) (opened h))
rounds-below h w round is =
    All-map (λ n. n < round) (λ (o : Opening). o.window.round) (filter (λ (o : Opening). same_uplink o.window w) (opened h))
    (Exceeds-each (rounds h w) round (subst (Exceeds (maximum (rounds h w))) (sym is) (below_next (maximum (rounds h w)))))

-- no window of the name was opened
pub never_opened : (net : Network) (h : List Entry) → IsLegal net h → (c : Call) (r : Reply) (o : Opening) → IsOpened h c r o → opening_count h o.window ≡ 0
never_opened net h legal c r o (inl first) =
    count-none (λ (x : Opening). same_window x.window o.window) (opened h)
    (All-weaker (λ (x : Opening). same_uplink x.window o.window ≡ false) (λ (x : Opening). same_window x.window o.window ≡ false)
    (λ x apart. ap (λ b. b && (x.window.round == o.window.round)) apart) (opened h) (first-apart net h legal o first.1))
never_opened net h legal c r o (inr next) =
    let of_uplink : Opening → Bool = λ x. same_uplink x.window o.window in
    let named : Opening → Bool = λ x. same_window x.window o.window in
    sym (count-kept named of_uplink (λ x same. same_window-uplink x.window o.window same) (opened h))
    ∙ count-none named (filter of_uplink (opened h))
    (All-weaker (λ (x : Opening). x.window.round < o.window.round) (λ x. named x ≡ false) lower (filter of_uplink (opened h)) (rounds-below h o.window o.window.round next.1.next))
  where
    lower : (x : Opening) → x.window.round < o.window.round → same_window x.window o.window ≡ false
    lower x less = false_from_ne_true (same_window x.window o.window) (λ same.
        let equal : x.window.round ≡ o.window.round = ap (λ (v : WindowName). v.round) (same_window-eq x.window o.window same) in
        omega (arith, less, equal))

-- the window that a call opens has a name under which none was opened
pub windows-fresh : (net : Network) (h : List Entry) → IsLegal net h → (c : Call) → IfSome (window_in c (reply_to net h c)) (λ o. opening_count h o.window ≡ 0)
windows-fresh net h legal c =
    IfSome-weaker (IsOpened h c (reply_to net h c)) (λ o. opening_count h o.window ≡ 0) (window_in c (reply_to net h c)) (never_opened net h legal c (reply_to net h c)) (window-new net h c)

-- ---- rounds

-- what an entry adds to the rounds of an uplink
pub rounds-push : (h : List Entry) (e : Entry) (w : WindowName) → rounds (h ++ e ∷ []) w ≡ rounds h w ++ map (λ o. o.window.round) (filter (λ o. same_uplink o.window w) (option_to_list (window_in e.call e.reply)))
rounds-push h e w =
    let says = λ (x : Entry). window_in x.call x.reply in
    let asked = λ (o : Opening). same_uplink o.window w in
    ap (map (λ (o : Opening). o.window.round)) (said-push says asked h e) ∙ map-append (λ (o : Opening). o.window.round) (filter asked (filter_map says h)) (said says asked e)

-- the rounds of an uplink are the same for each window of it
pub rounds-same : (h : List Entry) (v w : WindowName) → same_uplink v w ≡ true → rounds h v ≡ rounds h w
rounds-same h v w same =
    ap (map (λ (o : Opening). o.window.round)) (filter_agree (λ (o : Opening). same_uplink o.window v) (λ (o : Opening). same_uplink o.window w) (λ o. same_uplink-other o.window v w same) (opened h))

-- one round more is the last
last-push : (ns : List ℕ) (n : ℕ) → unwrap_or (maximum ns) 0 ≤ n → unwrap_or (maximum (ns ++ n ∷ [])) 0 ≡ n
last-push ns n most =
    ap (λ g. unwrap_or g 0) (maximum-push ns n)
    ∙ (elim (maximum ns) as (λ g. unwrap_or g 0 ≤ n → unwrap_or (greater g (Some n)) 0 ≡ n) [ None ↦ λ _. refl | Some m ↦ λ least. omega (arith, least) ]) most

-- the round of a window that is opened is then the last of its uplink
pub last_round-new : (h : List Entry) (e : Entry) (o : Opening) → window_in e.call e.reply ≡ Some o → last_round h o.window ≤ o.window.round → last_round (h ++ e ∷ []) o.window ≡ o.window.round
last_round-new h e o is most = rw (rounds-push h e o.window, is, same_uplink-refl o.window) (last-push (rounds h o.window) o.window.round most)

-- no element passes
pub filter-none : {X : Type 0} (test : X → Bool) (xs : List X) → AllByRecursion (λ x. test x ≡ false) xs → filter test xs ≡ []
filter-none test [] none = refl
filter-none {X} test (x ∷ xs) none = ap (λ b. cond {A = List X} b (x ∷ filter test xs) (filter test xs)) none.0 ∙ filter-none test xs none.1

-- no other uplink's rounds change
pub last_round-other : (h : List Entry) (e : Entry) (w : WindowName) → IfSome (window_in e.call e.reply) (λ o. same_uplink o.window w ≡ false) → last_round (h ++ e ∷ []) w ≡ last_round h w
last_round-other h e w apart =
    let asked : Opening → Bool = λ o. same_uplink o.window w in
    let new : List Opening = option_to_list (window_in e.call e.reply) in
    let none : filter asked new ≡ [] = filter-none asked new (All-option (λ (o : Opening). asked o ≡ false) (window_in e.call e.reply) apart) in
    ap (λ ns. unwrap_or (maximum ns) 0) (rounds-push h e w ∙ (ap (λ os. rounds h w ++ map (λ (o : Opening). o.window.round) os) none ∙ append-nil (rounds h w)))

-- ---- a session with a counter has a round of it

abbrev FirstsHaveRounds : List Entry → Type 0
FirstsHaveRounds h = AllByRecursion (λ (o : Opening). 1 ≤ last_round h o.window) (filter_map (λ (e : Entry). opening_in e.call e.reply) h)

last-grows : (ns ms : List ℕ) → unwrap_or (maximum ns) 0 ≤ unwrap_or (maximum (ns ++ ms)) 0
last-grows [] ms = omega arith
last-grows (n ∷ ns) ms = step (maximum ns) (maximum (ns ++ ms)) (last-grows ns ms)
  where
    step : (a b : Option ℕ) → unwrap_or a 0 ≤ unwrap_or b 0 → unwrap_or (greater (Some n) a) 0 ≤ unwrap_or (greater (Some n) b) 0
    step None None most = omega arith
    step None (Some b) most = omega arith
    step (Some a) None most = omega (arith, most)
    step (Some a) (Some b) most = omega (arith, most)

last_round-grows : (h : List Entry) (e : Entry) (w : WindowName) → last_round h w ≤ last_round (h ++ e ∷ []) w
last_round-grows h e w = subst (λ ns. last_round h w ≤ unwrap_or (maximum ns) 0) (sym (rounds-push h e w)) (last-grows (rounds h w) (map (λ (o : Opening). o.window.round) (filter (λ (o : Opening). same_uplink o.window w) (option_to_list (window_in e.call e.reply)))))

-- an uplink with a new counter has no round yet
no-rounds : (net : Network) (h : List Entry) → IsLegal net h → (w : WindowName) → Exceeds (greatest_counter h w.eui w.session) w.fcnt → last_round h w ≡ 0
no-rounds net h legal w exceeds =
    ap (λ (os : List Opening). unwrap_or (maximum (map (λ (x : Opening). x.window.round) os)) 0) (filter-none (λ (x : Opening). same_uplink x.window w) (opened h) (new-apart net h legal w exceeds))

-- its first window is then its last
first-last : (net : Network) (h : List Entry) → IsLegal net h → (e : Entry) (o : Opening) → window_in e.call e.reply ≡ Some o → IsNewOpening h o → last_round (h ++ e ∷ []) o.window ≡ o.window.round
first-last net h legal e o is new =
    let none : last_round h o.window ≡ 0 = no-rounds net h legal o.window new.fresh.counter in
    last_round-new h e o is (omega (arith, none))

firsts_step : (net : Network) (h : List Entry) (number : ℕ) (c : Call) → IsLegal net h → FirstsHaveRounds h → FirstsHaveRounds (with_call net h number c)
firsts_step net h number c legal have =
    let says = λ (x : Entry). opening_in x.call x.reply in
    subst (AllByRecursion HasRound) (sym (says-push says h e))
    (All-append HasRound (filter_map says h) (option_to_list (opening_in c r))
    (All-weaker (λ (o : Opening). 1 ≤ last_round h o.window) HasRound (λ o least. (let more = last_round-grows h e o.window in omega (arith, least, more))) (filter_map says h) have)
    (each (opening_in c r) (opening-new net h c) (opening-window c r)))
  where
    r : Reply
    r = reply_to net h c

    e : Entry
    e = entry_for net h number c

    HasRound : Opening → Type 0
    HasRound o = 1 ≤ last_round (with_call net h number c) o.window

    each : (p : Option Opening) → IfSome p (IsNewOpening h) → IfSome p (λ o. window_in c r ≡ Some o) → AllByRecursion HasRound (option_to_list p)
    each None new is = tt
    each (Some o) new is = (let last = first-last net h legal e o is new in let first = new.first in (omega (arith, last, first), tt))

firsts : (net : Network) (h : List Entry) → IsLegal net h → FirstsHaveRounds h
firsts net h legal = legal_induction net FirstsHaveRounds tt (λ g number c ok have. firsts_step net g number c ok have) h legal

All-unmap : {X Y : Type 0} (P : Y → Type 0) (f : X → Y) (xs : List X) → AllByRecursion (λ x. P (f x)) xs → AllByRecursion P (map f xs)
All-unmap P f [] all = tt
All-unmap P f (x ∷ xs) all = (all.0, All-unmap P f xs all.1)

maximum-has : (P : ℕ → Type 0) (ns : List ℕ) → AllByRecursion P ns → IfSome (maximum ns) P
maximum-has P [] all = tt
maximum-has P (n ∷ ns) all =
    (elim (maximum ns) as (λ o. IfSome o P → IfSome (greater (Some n) o) P) [
      | None ↦ λ _. all.0
      | Some m ↦ λ holds. elim (cases_lt n m) [
        | inl less ↦ (let same : m ≡ max n m = omega (arith, less) in subst P same holds)
        | inr most ↦ (let same : n ≡ max n m = omega (arith, most) in subst P same all.0)
      ]
    ]) (maximum-has P ns all.1)

pub session-has_round : (net : Network) (h : List Entry) → IsLegal net h → (w : WindowName) → greatest_counter h w.eui w.session ≡ Some w.fcnt → 1 ≤ last_round h w
session-has_round net h legal w is =
    let of_device : Opening → Bool = λ o. same_device o.window.eui w.eui in
    let in_session : Opening → Bool = λ o. o.window.session == w.session in
    let HasRound : Opening → Type 0 = λ o. 1 ≤ last_round h o.window in
    let all : List Opening = filter_map (λ (e : Entry). opening_in e.call e.reply) h in
    let mine = All-passed (λ (o : Opening). HasRound o × (of_device o ≡ true)) in_session (openings h w.eui) (All-passed HasRound of_device all (firsts net h legal)) in
    let counters : AllByRecursion Round (session_counters h w.eui w.session) =
    All-unmap Round (λ (o : Opening). o.window.fcnt) (filter in_session (openings h w.eui)) (All-weaker (λ (o : Opening). (HasRound o × (of_device o ≡ true)) × (in_session o ≡ true)) (λ (o : Opening). Round o.window.fcnt) (λ o holds. same o holds.0.0 holds.0.1 holds.1) (filter in_session (openings h w.eui)) mine) in
    at_some Round (greatest_counter h w.eui w.session) w.fcnt is (maximum-has Round (session_counters h w.eui w.session) counters)
  where
    at : ℕ → WindowName
    at n = record { eui = w.eui; session = w.session; fcnt = n; round = w.round }

    Round : ℕ → Type 0
    Round n = 1 ≤ last_round h (at n)

    same : (o : Opening) → 1 ≤ last_round h o.window → same_device o.window.eui w.eui ≡ true → (o.window.session == w.session) ≡ true → Round o.window.fcnt
    same o least device session =
        let of_one : same_uplink o.window (at o.window.fcnt) ≡ true = both_hold _ _ (both_hold _ _ device session) (eq-eqb o.window.fcnt o.window.fcnt refl) in
        subst (λ ns. 1 ≤ unwrap_or (maximum ns) 0) (rounds-same h o.window (at o.window.fcnt) of_one) least

-- ---- an open window is of the last round of its uplink

-- what holds of each window that was opened holds of each open one
open-opened : (P : Opening → Type 0) (h : List Entry) → AllByRecursion P (opened h) → AllByRecursion P (open_windows h)
open-opened P [] all = tt
open-opened P (e ∷ es) all =
    let keep : Opening → Bool = λ o. not (list_any (λ x. closes o.window x) es) in
    (elim (window_in e.call e.reply) as (λ p. AllByRecursion P (cons_option p (opened es)) → AllByRecursion P (filter keep (option_to_list p) ++ open_windows es)) [
      | None ↦ open-opened P es
      | Some o ↦ λ each. All-append P (filter keep (o ∷ [])) (open_windows es) (All-filter P keep (o ∷ []) (each.0, tt)) (open-opened P es each.1)
    ]) all

-- no open window is of the uplink for which a window is opened
abbrev Apart : Option Opening → Opening → Type 0
Apart p o = IfSome p (λ n. same_uplink n.window o.window ≡ false)

open-apart : (net : Network) (h : List Entry) → IsLegal net h → (c : Call) (r : Reply) (p : Option Opening) → IfSome p (IsOpened h c r) → AllByRecursion (Apart p) (open_windows h)
open-apart net h legal c r None is = All-each (Apart None) (λ o. tt) (open_windows h)
open-apart net h legal c r (Some n) (inl first) =
    open-opened (Apart (Some n)) h (All-weaker (λ (o : Opening). same_uplink o.window n.window ≡ false) (Apart (Some n)) (λ o apart. same_uplink-apart o.window n.window apart) (opened h) (first-apart net h legal n first.1))
open-apart net h legal c r (Some n) (inr next) =
    All-weaker (λ (o : Opening). same_uplink o.window n.window ≡ false) (Apart (Some n)) (λ o apart. same_uplink-apart o.window n.window apart) (open_windows h)
    (none-each (λ (o : Opening). same_uplink o.window n.window) (open_windows h) next.1.closed)

abbrev AreLast : List Entry → Type 0
AreLast h = AllByRecursion (λ o. o.window.round ≡ last_round h o.window) (open_windows h)

last_step : (net : Network) (h : List Entry) (number : ℕ) (c : Call) → IsLegal net h → AreLast h → AreLast (with_call net h number c)
last_step net h number c legal last =
    subst (AllByRecursion IsLast) (sym (open_windows-push h e))
    (All-append IsLast (filter stay (open_windows h)) (option_to_list (window_in c r)) (All-filter IsLast stay (open_windows h) (still (open_windows h) last (open-apart net h legal c r (window_in c r) (window-new net h c))))
    (new (window_in c r) refl (window-new net h c)))
  where
    r : Reply
    r = reply_to net h c

    e : Entry
    e = entry_for net h number c

    stay : Opening → Bool
    stay o = not (closes o.window e)

    IsLast : Opening → Type 0
    IsLast o = o.window.round ≡ last_round (with_call net h number c) o.window

    still : (os : List Opening) → AllByRecursion (λ o. o.window.round ≡ last_round h o.window) os → AllByRecursion (Apart (window_in c r)) os → AllByRecursion IsLast os
    still [] was apart = tt
    still (o ∷ os) was apart = (was.0 ∙ sym (last_round-other h e o.window apart.0), still os was.1 apart.1)

    new : (p : Option Opening) → window_in c r ≡ p → IfSome p (IsOpened h c r) → AllByRecursion IsLast (option_to_list p)
    new None says is = tt
    new (Some o) says (inl first) = (sym (first-last net h legal e o says first.1), tt)
    new (Some o) says (inr next) = (let round = next.1.next in (sym (last_round-new h e o says (omega (arith, round))), tt))

are_last : (net : Network) (h : List Entry) → IsLegal net h → AreLast h
are_last net h legal = legal_induction net AreLast tt (λ g number c ok last. last_step net g number c ok last) h legal

pub rounds_are_counted : (net : Network) (h : List Entry) → IsLegal net h → RoundsAreCounted h
rounds_are_counted net h legal = record {
  new = λ w exceeds. no-rounds net h legal w exceeds;
  greatest = λ w is. session-has_round net h legal w is;
  of_open = are_last net h legal;
}
