-- A trim of a legal history keeps 208 entries of a device at most.
use Rattle.std.proofs.Common.{◌≡◌, ◌⊎◌, ℕ, ◌+◌, ◌*◌, ◌≤◌, ◌==◌, Bool, true, false, not, ◌||◌, ◌&&◌, cond, List, [], ◌∷◌, length, length-append, filter, filter_map, map, count_by, Option, None, Some, option_map, refl, sym, ap, subst, ◌∙◌, arith, inl, inr, IfSome}
use Rattle.std.specs.Prelude.{is_some}
use Rattle.std.specs.List.{list_any, cons_option}
use Rattle.std.specs.Option.{option_map_or, option_or}
use Rattle.std.proofs.lemmas.Bool.{and_parts, eqb-true, or_parts, or_cases, and_from, and_right, not_from_true, not-true, eq-eqb, cond-true, cond-false, false_from_ne_true, both_ways}
use Rattle.ns_types.specs.declared.identity.DevEui.{DevEui}
use Rattle.ns_types.specs.declared.identity.WindowName.{WindowName}
use Rattle.ns_types.specs.declared.heard.Heard.{Heard}
use Rattle.ns_types.specs.declared.ticket.Ticket.{Ticket}
use Rattle.ns_types.specs.Identity.{same_window}
use Rattle.ns_types.specs.Ticket.{dev_eui}
use Rattle.ns_roster.specs.Network.{Network}
use Rattle.ns_calls.specs.declared.call.Call.{Call}
use Rattle.ns_calls.specs.declared.call.Call.TheVariants as call
use Rattle.ns_calls.specs.declared.call.Reply.{Reply}
use Rattle.ns_calls.specs.declared.call.Reply.TheVariants as reply
use Rattle.ns_calls.specs.declared.call.Entry.{Entry}
use Rattle.ns_calls.specs.Entries.{Acceptance, Opening, Closing, same_device, acceptances, openings, open_windows, accepted, closed, first_opened, Said, said}
use Rattle.ns_calls.specs.History.{same_ticket, asks_for, first_and_other, active_session, newest_session, live, is_live, window_copies, open_tickets, is_ticket_open, ticket_count, copies_of_ticket, ticket_copies, copied, join_copied}
use Rattle.ns_calls.proofs.Says.{acceptance_in, opening_in, closing_in, window_copy_in, ticket_copy_in, window_in, accepted-by, closed-by, join_copied-by, join-says, answer-says, close-says, opening-copy}
use Rattle.ns_calls.specs.Queries.{last}
use Rattle.ns_calls.specs.Legal.{IsLegal}
use Rattle.ns_calls.proofs.LocalLemmas.{bool_tells, All-each}
use Rattle.ns_calls.proofs.Lists.{All-weaker, All-filter, at_some}
use Rattle.ns_calls.proofs.JoinLemmas.{same_device-eq}
use Rattle.ns_calls.proofs.NameLemmas.{same_window-refl, same_window-eq}
use Rattle.ns_calls.proofs.TicketLemmas.{same_ticket-eq}
use Rattle.ns_calls.proofs.LimitLemmas.{limits}
use Rattle.ns_calls.proofs.OutLemmas.{open-asked}
use Rattle.ns_kept.specs.Kept.{whole, same_session, none_says, keeps_acceptance, keeps_opening, keeps_repetition, keeps_closing, keeps_window_copy, keeps_ticket_copy, is_kept, filter_before, keep, repeated}
use Rattle.ns_kept.specs.Bound.{device_of, is_of, most_kept}
use Rattle.ns_kept.proofs.Within.{Adds, Adds-filter, AllEnds, last-append, find-any, any-weaker, any-filter, each-found, Adds-map}
use Rattle.ns_kept.proofs.Asked.{acceptances-adds, openings-adds, window_copies-adds, copies_of_ticket-adds, ticket_copies-cons}
use Rattle.ns_kept.proofs.ReadLemmas.{reading-whole}
use Rattle.ns_kept.proofs.Dropped.{has_window, same_both}
use Rattle.ns_kept.proofs.KeptQueries.{sessions_rise}
use Rattle.ns_kept.proofs.Later.{first_one, first_other}
use Rattle.ns_kept.proofs.Tally.{tally, count-tally, tally-either, tally-either-at, tally-at, times, tally-keys, tally-last, tally-adds, rises-once, times-all}
use Rattle.ns_kept.proofs.Says.{repetition_in, opening-window, repetition-window, in_class, any-said, said_one, said_two, says_so}
use Rattle.std.proofs.lemmas.List.Sums.{length-filter}
use Rattle.ns_kept.proofs.TicketsKept.{same_ticket-refl}

-- ---- the last of a kind

abbrev last_of : {Y : Type 0} → (Said → Option Y) → (Y → Bool) → (Y → Y → Bool) → Entry → List Entry → Bool
last_of says mine same x xs = option_map_or (λ y. mine y && none_says says (same y) xs) (says (said x.call x.reply)) false

tally-last_of : {Y : Type 0} (says : Said → Option Y) (mine : Y → Bool) (same : Y → Y → Bool) → ((y z : Y) → mine y ≡ true → mine z ≡ true → same y z ≡ true) → (es : List Entry) → tally (last_of says mine same) es ≤ 1
tally-last_of {Y} says mine same alike es =
    tally-last (last_of says mine same) (in_class says mine)
    (λ x xs is.
    let one = said_two (λ (y : Y). mine y) (λ (y : Y). none_says says (same y) xs) (says (said x.call x.reply)) is in
    let y : Y = one.0 in
    let none : list_any (same y) (filter_map (λ (e : Entry). says (said e.call e.reply)) xs) ≡ false = not-true _ one.3 in (
      says_so mine (says (said x.call x.reply)) y one.1 one.2,
      any-said says mine xs
          ∙ false_from_ne_true _ (λ some. both_ways _ none (any-weaker mine (same y) (λ z passes. alike y z one.2 passes) (filter_map (λ (e : Entry). says (said e.call e.reply)) xs) some)),
    )) es

-- ---- live sessions

live-two : (h : List Entry) (eui : DevEui) → length (live h eui) ≤ 2
live-two h eui = step (active_session h eui) (newest_session h eui)
  where
    step : (a b : Option ℕ) → length (first_and_other a b) ≤ 2
    step None None = omega arith
    step None (Some y) = omega arith
    step (Some x) None = omega arith
    step (Some x) (Some y) = grind arith

live-key : (h : List Entry) (eui d : DevEui) (n : ℕ) → same_device d eui ≡ true → is_live h d n ≡ true → list_any (λ s. same_device d eui && (n == s)) (live h eui) ≡ true
live-key h eui d n same lives =
    let there : is_live h eui n ≡ true = subst (λ (e : DevEui). is_live h e n ≡ true) (same_device-eq d eui same) lives in
    any-weaker (λ s. s == n) (λ s. same_device d eui && (n == s)) (λ s is. and_from _ _ same (eq-eqb n s (sym (eqb-true s n is)))) (live h eui) there

times-two : (h : List Entry) (eui : DevEui) → times 1 (live h eui) ≤ 2
times-two h eui = (let is = times-all 1 (live h eui) in let two = live-two h eui in omega (arith, is, two))

-- ---- acceptances

abbrev accepts_in : DevEui → ℕ → Entry → Bool
accepts_in eui s x = in_class accepted (λ a. same_device a.eui eui && (a.session == s)) x

one-session : (eui : DevEui) (s : ℕ) (x : Entry) → length (filter (λ n. n == s) (map (λ (a : Acceptance). a.session) (acceptances (x ∷ []) eui))) ≡ cond (accepts_in eui s x) 1 0
one-session eui s x = step (acceptance_in x.call x.reply)
  where
    step : (o : Option Acceptance) → length (filter (λ n. n == s) (map (λ (a : Acceptance). a.session) (filter (λ (a : Acceptance). same_device a.eui eui) (cons_option o [])))) ≡ cond (option_map_or (λ (a : Acceptance). same_device a.eui eui && (a.session == s)) o false) 1 0
    step None = refl
    step (Some a) = grind arith

session-once : (net : Network) (h : List Entry) → IsLegal net h → (eui : DevEui) (s : ℕ) → tally (λ x _. accepts_in eui s x) h ≤ 1
session-once net h legal eui s =
    let sessions : List Entry → List ℕ = λ es. map (λ (a : Acceptance). a.session) (acceptances es eui) in
    let is : tally (λ x _. accepts_in eui s x) h ≡ length (filter (λ n. n == s) (sessions h)) =
    tally-adds (accepts_in eui s) (λ es. filter (λ n. n == s) (sessions es)) (Adds-filter (λ n. n == s) _ (Adds-map (λ (a : Acceptance). a.session) _ (acceptances-adds eui))) (one-session eui s) h in
    let once = rises-once s (sessions h) (sessions_rise net h legal eui) in
    omega (arith, is, once)

-- the windows of a device that are open
abbrev own_windows : List Entry → DevEui → List Opening
own_windows h eui = filter (λ (o : Opening). same_device o.window.eui eui) (open_windows h)

eight : (net : Network) (h : List Entry) → IsLegal net h → (eui : DevEui) → length (own_windows h eui) ≤ 8
eight net h legal eui = (let is = length-filter (λ (o : Opening). same_device o.window.eui eui) (open_windows h) in let most = (limits net h legal).windows eui in omega (arith, is, most))

abbrev a_test : DevEui → List Entry → Entry → List Entry → Bool
a_test eui h x xs = in_class accepted (λ a. same_device a.eui eui && keeps_acceptance h xs a) x

abbrev a_live : DevEui → List Entry → Entry → List Entry → Bool
a_live eui h x xs = in_class accepted (λ a. same_device a.eui eui && is_live h a.eui a.session) x

abbrev a_window : DevEui → List Entry → Entry → List Entry → Bool
a_window eui h x xs = in_class accepted (λ a. same_device a.eui eui && has_window h a.eui a.session) x

-- the last that these entries say of the device is the last of the history
abbrev Lasts : {Y : Type 0} → (List Entry → List Y) → List Entry → List Entry → Type 0
Lasts {Y} told h xs = (y : Y) → last (told xs) ≡ Some y → last (told h) ≡ Some y

lasts-rest : {Y : Type 0} (told : List Entry → List Y) → Adds told → (h : List Entry) (x : Entry) (xs : List Entry) → Lasts told h (x ∷ xs) → Lasts told h xs
lasts-rest {Y} told adds h x xs lasts y is = lasts y (ap last (adds.more x xs) ∙ (last-append (told (x ∷ [])) (told xs) ∙ ap (λ o. option_or o (last (told (x ∷ [])))) is))

-- what one's own entry says, where none after it says so
lasts-here : {Y : Type 0} (says : Said → Option Y) (mine : Y → Bool) (x : Entry) (xs : List Entry) (y : Y) → says (said x.call x.reply) ≡ Some y → mine y ≡ true → list_any mine (filter_map (λ e. says (said e.call e.reply)) xs) ≡ false →
    last (filter mine (filter_map (λ e. says (said e.call e.reply)) (x ∷ xs))) ≡ Some y
lasts-here {Y} says mine x xs y is passes none =
    ap (λ o. last (filter mine (cons_option o rest))) is
    ∙ (ap (λ b. last (cond {A = List Y} b (y ∷ filter mine rest) (filter mine rest))) passes
    ∙ ap (λ ys. last (y ∷ ys)) (empty rest none))
  where
    rest : List Y
    rest = filter_map (λ (e : Entry). says (said e.call e.reply)) xs

    empty : (ys : List Y) → list_any mine ys ≡ false → filter mine ys ≡ []
    empty [] nothing = refl
    empty (z ∷ ys) nothing = (let both = or_parts (mine z) (list_any mine ys) nothing in cond-false _ _ _ both.0 ∙ empty ys both.1)

-- the last acceptance of a device is of a live session
acceptances-at : (h : List Entry) (eui : DevEui) (es : List Entry) → Lasts (λ xs. acceptances xs eui) h es → AllEnds (λ x xs. a_test eui h x xs ≡ true → (a_live eui h x xs ≡ true) ⊎ (a_window eui h x xs ≡ true)) es
acceptances-at h eui [] lasts = tt
acceptances-at h eui (x ∷ xs) lasts = (
  (λ is. (
      let one = said_two (λ (a : Acceptance). same_device a.eui eui) (λ (a : Acceptance). keeps_acceptance h xs a) (acceptance_in x.call x.reply) is in
      let a : Acceptance = one.0 in
      let device : a.eui ≡ eui = same_device-eq a.eui eui one.2 in
      elim (or_cases _ _ one.3) [
        | inr opens ↦ inr (says_so (λ (b : Acceptance). same_device b.eui eui && has_window h b.eui b.session) (acceptance_in x.call x.reply) a one.1 (and_from _ _ one.2 opens))
        | inl some ↦
            elim (or_cases (none_says accepted (λ (b : Acceptance). same_device b.eui a.eui) xs) (is_live h a.eui a.session) some) [
              | inr lives ↦ inl (says_so (λ (b : Acceptance). same_device b.eui eui && is_live h b.eui b.session) (acceptance_in x.call x.reply) a one.1 (and_from _ _ one.2 lives))
              | inl newest ↦
                  (let none : list_any (λ (b : Acceptance). same_device b.eui eui) (filter_map (λ (e : Entry). acceptance_in e.call e.reply) xs) ≡ false =
                  subst (λ (d : DevEui). list_any (λ (b : Acceptance). same_device b.eui d) (filter_map (λ (e : Entry). acceptance_in e.call e.reply) xs) ≡ false) device (not-true _ newest) in
                  let here : last (acceptances h eui) ≡ Some a = lasts a (lasts-here accepted (λ (b : Acceptance). same_device b.eui eui) x xs a one.1 one.2 none) in
                  let lives : is_live h eui a.session ≡ true = first_other (active_session h eui) (newest_session h eui) a.session (ap (option_map (λ (b : Acceptance). b.session)) here) in
                  inl (says_so (λ (b : Acceptance). same_device b.eui eui && is_live h b.eui b.session) (acceptance_in x.call x.reply) a one.1 (and_from _ _ one.2 (subst (λ (d : DevEui). is_live h d a.session ≡ true) (sym device) lives))))
            ]
      ])),
  acceptances-at h eui xs (lasts-rest (λ es. acceptances es eui) (acceptances-adds eui) h x xs lasts),
)

most-acceptances : (net : Network) (h : List Entry) → IsLegal net h → (eui : DevEui) → tally (a_test eui h) h ≤ 10
most-acceptances net h legal eui =
    let split : tally (a_test eui h) h ≤ tally (a_live eui h) h + tally (a_window eui h) h = tally-either-at (a_test eui h) (a_live eui h) (a_window eui h) h (acceptances-at h eui h (λ y is. is)) in
    let of_live : tally (a_live eui h) h ≤ times 1 (live h eui) =
    tally-keys (λ s x _. accepts_in eui s x) 1 h (live h eui) (a_live eui h)
    (λ x xs is.
    let one = said_two (λ (a : Acceptance). same_device a.eui eui) (λ (a : Acceptance). is_live h a.eui a.session) (acceptance_in x.call x.reply) is in
    let a : Acceptance = one.0 in
    any-weaker (λ s. same_device a.eui eui && (a.session == s)) (λ s. accepts_in eui s x) (λ s passes. says_so (λ (b : Acceptance). same_device b.eui eui && (b.session == s)) (acceptance_in x.call x.reply) a one.1 passes) (live h eui)
    (live-key h eui a.eui a.session one.2 one.3))
    (All-each (λ s. tally (λ x _. accepts_in eui s x) h ≤ 1) (λ s. session-once net h legal eui s) (live h eui)) in
    let two : times 1 (live h eui) ≤ 2 = times-two h eui in
    let of_windows : tally (a_window eui h) h ≤ times 1 (own_windows h eui) =
    tally-keys (λ (o : Opening) x _. accepts_in eui o.window.session x) 1 h (own_windows h eui) (a_window eui h)
    (λ x xs is.
    let one = said_two (λ (a : Acceptance). same_device a.eui eui) (λ (a : Acceptance). has_window h a.eui a.session) (acceptance_in x.call x.reply) is in
    let a : Acceptance = one.0 in
    let device : a.eui ≡ eui = same_device-eq a.eui eui one.2 in
    let mine : (o : Opening) → (same_device o.window.eui a.eui && (o.window.session == a.session)) ≡ true → same_device o.window.eui eui ≡ true =
    λ o both. subst (λ (d : DevEui). same_device o.window.eui d ≡ true) device (and_parts (same_device o.window.eui a.eui) (o.window.session == a.session) both).0 in
    any-weaker (λ (o : Opening). same_device o.window.eui a.eui && (o.window.session == a.session)) (λ (o : Opening). accepts_in eui o.window.session x)
    (λ o both. says_so (λ (b : Acceptance). same_device b.eui eui && (b.session == o.window.session)) (acceptance_in x.call x.reply) a one.1
    (and_from _ _ one.2 (eq-eqb a.session o.window.session (sym (eqb-true o.window.session a.session (and_parts (same_device o.window.eui a.eui) (o.window.session == a.session) both).1)))))
    (own_windows h eui)
    (any-filter (λ (o : Opening). same_device o.window.eui a.eui && (o.window.session == a.session)) (λ (o : Opening). same_device o.window.eui eui) mine (open_windows h) one.3))
    (All-each (λ (o : Opening). tally (λ x _. accepts_in eui o.window.session x) h ≤ 1) (λ o. session-once net h legal eui o.window.session) (own_windows h eui)) in
    let as_many = times-all 1 (own_windows h eui) in
    let most : length (own_windows h eui) ≤ 8 = eight net h legal eui in
    omega (arith, split, of_live, two, of_windows, as_many, most)

-- ---- openings

abbrev o_test : DevEui → List Entry → Entry → List Entry → Bool
o_test eui h x xs = in_class first_opened (λ o. same_device o.window.eui eui && keeps_opening h xs o) x

-- the last window that entries open so, of each live session
abbrev last_live : (Said → Option Opening) → DevEui → List Entry → Entry → List Entry → Bool
last_live says eui h x xs = in_class says (λ o. same_device o.window.eui eui && (is_live h o.window.eui o.window.session && none_says says (λ p. same_session p.window o.window) xs)) x

abbrev o_live : DevEui → List Entry → Entry → List Entry → Bool
o_live eui h x xs = last_live first_opened eui h x xs

abbrev last_in : (Said → Option Opening) → DevEui → ℕ → Entry → List Entry → Bool
last_in says eui s x xs = last_of says (λ o. same_device o.window.eui eui && (o.window.session == s)) (λ o p. same_session p.window o.window) x xs

session-of-both : (v w : WindowName) (eui : DevEui) (s : ℕ) → (same_device v.eui eui && (v.session == s)) ≡ true → (same_device w.eui eui && (w.session == s)) ≡ true → same_session w v ≡ true
session-of-both v w eui s mine yours = (let is = same_both v.eui eui v.session s mine in cc (is.0, is.1))

most-last : (says : Said → Option Opening) (h : List Entry) (eui : DevEui) → tally (last_live says eui h) h ≤ 2
most-last says h eui =
    let of_live : tally (last_live says eui h) h ≤ times 1 (live h eui) =
    tally-keys (last_in says eui) 1 h (live h eui) (last_live says eui h)
    (λ x xs is.
    let one = said_two (λ (o : Opening). same_device o.window.eui eui) (λ (o : Opening). (is_live h o.window.eui o.window.session && none_says says (λ (p : Opening). same_session p.window o.window) xs)) (says (said x.call x.reply)) is in
    let o : Opening = one.0 in
    let two = and_parts (is_live h o.window.eui o.window.session) (none_says says (λ (p : Opening). same_session p.window o.window) xs) one.3 in
    any-weaker (λ s. same_device o.window.eui eui && (o.window.session == s)) (λ s. last_in says eui s x xs)
    (λ s passes. says_so (λ (b : Opening). (same_device b.window.eui eui && (b.window.session == s)) && none_says says (λ (p : Opening). same_session p.window b.window) xs) (says (said x.call x.reply)) o one.1 (and_from _ _ passes two.1))
    (live h eui) (live-key h eui o.window.eui o.window.session one.2 two.0))
    (All-each (λ s. tally (last_in says eui s) h ≤ 1)
    (λ s. tally-last_of says (λ (o : Opening). same_device o.window.eui eui && (o.window.session == s)) (λ (o : Opening) (p : Opening). same_session p.window o.window) (λ o p mine yours. session-of-both o.window p.window eui s mine yours) h) (live h eui)) in
    let two : times 1 (live h eui) ≤ 2 = times-two h eui in
    omega (arith, of_live, two)

-- the last opening of a device is the last of a live session
openings-at : (h : List Entry) (eui : DevEui) (es : List Entry) → Lasts (λ xs. openings xs eui) h es → AllEnds (λ x xs. o_test eui h x xs ≡ true → o_live eui h x xs ≡ true) es
openings-at h eui [] lasts = tt
openings-at h eui (x ∷ xs) lasts = (
  (λ is. (
      let one = said_two (λ (o : Opening). same_device o.window.eui eui) (λ (o : Opening). keeps_opening h xs o) (opening_in x.call x.reply) is in
      let o : Opening = one.0 in
      let device : o.window.eui ≡ eui = same_device-eq o.window.eui eui one.2 in
      let later : List Opening = filter_map (λ (e : Entry). opening_in e.call e.reply) xs in
      elim (or_cases (none_says first_opened (λ (p : Opening). same_device p.window.eui o.window.eui) xs) (is_live h o.window.eui o.window.session && none_says first_opened (λ (p : Opening). same_session p.window o.window) xs) one.3) [
        | inr lives ↦ says_so (λ (b : Opening). same_device b.window.eui eui && (is_live h b.window.eui b.window.session && none_says first_opened (λ (p : Opening). same_session p.window b.window) xs)) (opening_in x.call x.reply) o one.1 (and_from _ _ one.2 lives)
        | inl newest ↦
            (let quiet : list_any (λ (p : Opening). same_device p.window.eui o.window.eui) later ≡ false = not-true _ newest in
            let none : list_any (λ (p : Opening). same_device p.window.eui eui) later ≡ false = subst (λ (d : DevEui). list_any (λ (p : Opening). same_device p.window.eui d) later ≡ false) device quiet in
            let here : last (openings h eui) ≡ Some o = lasts o (lasts-here first_opened (λ (p : Opening). same_device p.window.eui eui) x xs o one.1 one.2 none) in
            let lives : is_live h eui o.window.session ≡ true = first_one (active_session h eui) (newest_session h eui) o.window.session (ap (option_map (λ (p : Opening). p.window.session)) here) in
            let of_session : list_any (λ (p : Opening). same_session p.window o.window) later ≡ false = false_from_ne_true _ (λ some.
            both_ways _ quiet (any-weaker (λ (p : Opening). same_session p.window o.window) (λ (p : Opening). same_device p.window.eui o.window.eui) (λ p both. (and_parts (same_device p.window.eui o.window.eui) (p.window.session == o.window.session) both).0) later some)) in
            says_so (λ (b : Opening). same_device b.window.eui eui && (is_live h b.window.eui b.window.session && none_says first_opened (λ (p : Opening). same_session p.window b.window) xs)) (opening_in x.call x.reply) o one.1
            (and_from _ _ one.2 (and_from _ _ (subst (λ (d : DevEui). is_live h d o.window.session ≡ true) (sym device) lives) (ap not of_session))))
      ])),
  openings-at h eui xs (lasts-rest (λ es. openings es eui) (openings-adds eui) h x xs lasts),
)

most-openings : (h : List Entry) (eui : DevEui) → tally (o_test eui h) h ≤ 2
most-openings h eui =
    let split : tally (o_test eui h) h ≤ tally (o_live eui h) h = tally-at (o_test eui h) (o_live eui h) h (openings-at h eui h (λ y is. is)) in
    let of_live = most-last first_opened h eui in
    omega (arith, split, of_live)

-- ---- windows that were opened again

abbrev r_test : DevEui → List Entry → Entry → List Entry → Bool
r_test eui h x xs = in_class repeated (λ o. same_device o.window.eui eui && keeps_repetition h xs o) x

most-repetitions : (h : List Entry) (eui : DevEui) → tally (r_test eui h) h ≤ 2
most-repetitions h eui = most-last repeated h eui

-- ---- acknowledging closings

abbrev c_test : DevEui → List Entry → Entry → List Entry → Bool
c_test eui h x xs = in_class closed (λ c. same_device c.window.eui eui && keeps_closing h xs c) x

abbrev c_session : DevEui → ℕ → Entry → List Entry → Bool
c_session eui s x xs = last_of closed (λ c. is_some c.ack && (same_device c.window.eui eui && (c.window.session == s))) (λ c d. is_some d.ack && same_session d.window c.window) x xs

most-closings : (h : List Entry) (eui : DevEui) → tally (c_test eui h) h ≤ 2
most-closings h eui =
    let of_live : tally (c_test eui h) h ≤ times 1 (live h eui) =
    tally-keys (c_session eui) 1 h (live h eui) (c_test eui h)
    (λ x xs is.
    let one = said_two (λ (c : Closing). same_device c.window.eui eui) (λ (c : Closing). keeps_closing h xs c) (closing_in x.call x.reply) is in
    let c : Closing = one.0 in
    let last_one = and_parts (is_some c.ack && is_live h c.window.eui c.window.session) (none_says closed (λ (d : Closing). is_some d.ack && same_session d.window c.window) xs) one.3 in
    let lives = and_parts (is_some c.ack) (is_live h c.window.eui c.window.session) last_one.0 in
    any-weaker (λ s. same_device c.window.eui eui && (c.window.session == s)) (λ s. c_session eui s x xs)
    (λ s passes. says_so (λ (b : Closing). (is_some b.ack && (same_device b.window.eui eui && (b.window.session == s))) && none_says closed (λ (d : Closing). is_some d.ack && same_session d.window b.window) xs) (closing_in x.call x.reply) c one.1
    (and_from _ _ (and_from _ _ lives.0 passes) last_one.1))
    (live h eui) (live-key h eui c.window.eui c.window.session one.2 lives.1))
    (All-each (λ s. tally (c_session eui s) h ≤ 1)
    (λ s. tally-last_of closed (λ (c : Closing). is_some c.ack && (same_device c.window.eui eui && (c.window.session == s))) (λ (c : Closing) (d : Closing). is_some d.ack && same_session d.window c.window)
    (λ c d mine yours.
    let one = and_parts (is_some c.ack) (same_device c.window.eui eui && (c.window.session == s)) mine in
    let two = and_parts (is_some d.ack) (same_device d.window.eui eui && (d.window.session == s)) yours in
    and_from _ _ two.0 (session-of-both c.window d.window eui s one.1 two.1)) h) (live h eui)) in
    let two : times 1 (live h eui) ≤ 2 = times-two h eui in
    omega (arith, of_live, two)

-- ---- copies of open windows

abbrev w_test : DevEui → List Entry → Entry → List Entry → Bool
w_test eui h x xs = in_class copied (λ c. same_device c.0.eui eui && keeps_window_copy h c) x

abbrev copies_window : WindowName → Entry → Bool
copies_window w x = in_class copied (λ c. same_window c.0 w) x

one-copy : (w : WindowName) (x : Entry) → length (window_copies (x ∷ []) w) ≡ cond (copies_window w x) 1 0
one-copy w x = step (window_copy_in x.call x.reply)
  where
    step : (o : Option (WindowName × Heard)) → length (map (λ (c : WindowName × Heard). c.1) (filter (λ (c : WindowName × Heard). same_window c.0 w) (cons_option o []))) ≡ cond (option_map_or (λ (c : WindowName × Heard). same_window c.0 w) o false) 1 0
    step None = refl
    step (Some c) = grind arith

most-window_copies : (net : Network) (h : List Entry) → IsLegal net h → (eui : DevEui) → tally (w_test eui h) h ≤ 128
most-window_copies net h legal eui =
    let keys : tally (w_test eui h) h ≤ times 16 (own_windows h eui) =
    tally-keys (λ (o : Opening) x _. copies_window o.window x) 16 h (own_windows h eui) (w_test eui h)
    (λ x xs is.
    let one = said_two (λ (c : WindowName × Heard). same_device c.0.eui eui) (λ (c : WindowName × Heard). keeps_window_copy h c) (window_copy_in x.call x.reply) is in
    let c : WindowName × Heard = one.0 in
    let there : list_any (λ (o : Opening). same_window o.window c.0) (open_windows h) ≡ true = sym (find-any (λ (o : Opening). same_window o.window c.0) (open_windows h)) ∙ one.3 in
    any-weaker (λ (o : Opening). same_window o.window c.0) (λ (o : Opening). copies_window o.window x)
    (λ o same. says_so (λ (d : WindowName × Heard). same_window d.0 o.window) (window_copy_in x.call x.reply) c one.1 (subst (λ (v : WindowName). same_window c.0 v ≡ true) (sym (same_window-eq o.window c.0 same)) (same_window-refl c.0)))
    (own_windows h eui)
    (any-filter (λ (o : Opening). same_window o.window c.0) (λ (o : Opening). same_device o.window.eui eui) (λ o same. subst (λ (v : WindowName). same_device v.eui eui ≡ true) (sym (same_window-eq o.window c.0 same)) one.2) (open_windows h) there))
    (All-each (λ (o : Opening). tally (λ x _. copies_window o.window x) h ≤ 16)
    (λ o.
    let is : tally (λ x _. copies_window o.window x) h ≡ length (window_copies h o.window) = tally-adds (copies_window o.window) (λ es. window_copies es o.window) (window_copies-adds o.window) (one-copy o.window) h in
    let most = (limits net h legal).of_window o.window in
    omega (arith, is, most)) (own_windows h eui)) in
    let as_many : times 16 (own_windows h eui) ≡ 16 * length (own_windows h eui) = times-all 16 (own_windows h eui) in
    let most : length (own_windows h eui) ≤ 8 = eight net h legal eui in
    omega (arith, keys, as_many, most)

-- ---- copies of open tickets

abbrev t_test : DevEui → List Entry → Entry → List Entry → Bool
t_test eui h x xs = in_class join_copied (λ c. same_device (dev_eui c.0) eui && keeps_ticket_copy h xs c) x

abbrev copies_ticket : Ticket → Entry → Bool
copies_ticket t x = in_class join_copied (λ c. same_ticket t c.0) x

abbrev last_copies : Ticket → Entry → List Entry → Bool
last_copies t x xs = copies_ticket t x && not (list_any (asks_for t) xs)

one-ticket : (t : Ticket) (x : Entry) → length (copies_of_ticket (x ∷ []) t) ≡ cond (copies_ticket t x) 1 0
one-ticket t x = step (ticket_copy_in x.call x.reply)
  where
    step : (o : Option (Ticket × Heard)) → length (map (λ (c : Ticket × Heard). c.1) (filter (λ (c : Ticket × Heard). same_ticket t c.0) (cons_option o []))) ≡ cond (option_map_or (λ (c : Ticket × Heard). same_ticket t c.0) o false) 1 0
    step None = refl
    step (Some c) = grind arith

-- with one more entry, after which the ticket is not asked for
copies-more : (t : Ticket) (x : Entry) (xs : List Entry) → list_any (asks_for t) xs ≡ false → tally (last_copies t) xs ≡ length (copies_of_ticket xs t) → tally (last_copies t) (x ∷ xs) ≡ length (copies_of_ticket (x ∷ xs) t)
copies-more t x xs quiet rest =
    let here = one-ticket t x in
    let split : length (copies_of_ticket (x ∷ xs) t) ≡ length (copies_of_ticket (x ∷ []) t) + length (copies_of_ticket xs t) = ap length ((copies_of_ticket-adds t).more x xs) ∙ length-append (copies_of_ticket (x ∷ []) t) (copies_of_ticket xs t) in
    let counts : cond {A = ℕ} (last_copies t x xs) 1 0 ≡ cond (copies_ticket t x) 1 0 = passing (copies_ticket t x) (list_any (asks_for t) xs) quiet in
    omega (arith, here, rest, split, counts)
  where
    passing : (a b : Bool) → b ≡ false → cond {A = ℕ} (a && not b) 1 0 ≡ cond a 1 0
    passing a b is = grind arith

copies-since : (t : Ticket) (es : List Entry) → list_any (asks_for t) es ≡ false → tally (last_copies t) es ≡ length (copies_of_ticket es t)
copies-since t [] quiet = sym (ap length (copies_of_ticket-adds t).none)
copies-since t (x ∷ xs) quiet = (let both = or_parts (asks_for t x) (list_any (asks_for t) xs) quiet in copies-more t x xs both.1 (copies-since t xs both.1))

copies-last : (t : Ticket) (es : List Entry) → list_any (asks_for t) es ≡ true → tally (last_copies t) es ≡ length (ticket_copies es t)
copies-last t [] asked = absurd (cc asked)
copies-last t (x ∷ xs) asked =
    elim (bool_tells (list_any (asks_for t) xs)) [
      | inl later ↦
          (let rest : tally (last_copies t) xs ≡ length (ticket_copies xs t) = copies-last t xs later in
          let here : cond {A = ℕ} (last_copies t x xs) 1 0 ≡ 0 = cond-false _ _ _ (and_right (copies_ticket t x) _ (not_from_true _ later)) in
          let same : length (ticket_copies (x ∷ xs) t) ≡ length (ticket_copies xs t) = ap length (ticket_copies-cons x xs t ∙ cond-true _ _ _ later) in
          omega (arith, rest, here, same))
      | inr quiet ↦
          (let asks : asks_for t x ≡ true = first_true (asks_for t x) (list_any (asks_for t) xs) asked quiet in
          copies-more t x xs quiet (copies-since t xs quiet) ∙ sym (ap length (ticket_copies-cons x xs t ∙ (cond-false _ _ _ quiet ∙ cond-true _ _ _ asks))))
    ]
  where
    first_true : (a b : Bool) → (a || b) ≡ true → b ≡ false → a ≡ true
    first_true a b is none = grind arith

abbrev own_tickets : List Entry → DevEui → List Ticket
own_tickets h eui = filter (λ (t : Ticket). same_device (dev_eui t) eui) (open_tickets h)

most-ticket_copies : (net : Network) (h : List Entry) → IsLegal net h → (eui : DevEui) → tally (t_test eui h) h ≤ 64
most-ticket_copies net h legal eui =
    let keys : tally (t_test eui h) h ≤ times 16 (own_tickets h eui) =
    tally-keys last_copies 16 h (own_tickets h eui) (t_test eui h)
    (λ x xs is.
    let one = said_two (λ (c : Ticket × Heard). same_device (dev_eui c.0) eui) (λ (c : Ticket × Heard). keeps_ticket_copy h xs c) (ticket_copy_in x.call x.reply) is in
    let c : Ticket × Heard = one.0 in
    let two = and_parts (is_ticket_open h c.0) (not (list_any (asks_for c.0) xs)) one.3 in
    any-weaker (same_ticket c.0) (λ (t : Ticket). last_copies t x xs)
    (λ t same.
    let is_t : c.0 ≡ t = same_ticket-eq c.0 t same in
    and_from _ _ (says_so (λ (d : Ticket × Heard). same_ticket t d.0) (ticket_copy_in x.call x.reply) c one.1 (subst (λ (u : Ticket). same_ticket t u ≡ true) (sym is_t) (same_ticket-refl t))) (subst (λ (u : Ticket). not (list_any (asks_for u) xs) ≡ true) is_t two.1))
    (own_tickets h eui)
    (any-filter (same_ticket c.0) (λ (t : Ticket). same_device (dev_eui t) eui) (λ t same. subst (λ (u : Ticket). same_device (dev_eui u) eui ≡ true) (same_ticket-eq c.0 t same) one.2) (open_tickets h) two.0))
    (All-weaker (λ (t : Ticket). is_ticket_open h t ≡ true) (λ (t : Ticket). tally (last_copies t) h ≤ 16)
    (λ t opens.
    let is : tally (last_copies t) h ≡ length (ticket_copies h t) = copies-last t h (open-asked h t opens) in
    let most = (limits net h legal).of_ticket t in
    omega (arith, is, most)) (own_tickets h eui) (All-filter (λ (t : Ticket). is_ticket_open h t ≡ true) (λ (t : Ticket). same_device (dev_eui t) eui) (open_tickets h) (each-found same_ticket same_ticket-refl (open_tickets h)))) in
    let as_many : times 16 (own_tickets h eui) ≡ 16 * length (own_tickets h eui) = times-all 16 (own_tickets h eui) in
    let counted : length (own_tickets h eui) ≡ ticket_count h eui = length-filter (λ (t : Ticket). same_device (dev_eui t) eui) (open_tickets h) in
    let most = (limits net h legal).tickets eui in
    omega (arith, keys, as_many, counted, most)

-- ---- all together

pub acceptance-device : (c : Call) (r : Reply) (a : Acceptance) → acceptance_in c r ≡ Some a → device_of c r ≡ Some a.eui
acceptance-device c r a =
    accepted-by (λ d p. p ≡ Some a → device_of d r ≡ Some a.eui) (λ d no. absurd (cc no)) (λ t join session is. ap (option_map (λ (x : Acceptance). x.eui)) is) c r

copied-device : (c : Call) (r : Reply) → IfSome (window_copy_in c r) (λ x. device_of c r ≡ Some x.0.eui)
copied-device (call.Uplink frame heard) (reply.Opened w) = refl
copied-device (call.Uplink frame heard) (reply.Again w) = refl
copied-device (call.Uplink frame heard) (reply.Copied w place) = refl
copied-device (call.Uplink frame heard) _ = tt
copied-device (call.Join t heard) r = join-says (λ s. IfSome (copied s) (λ x. device_of (call.Join t heard) r ≡ Some x.0.eui)) t heard tt tt tt r
copied-device (call.JoinReply t o) r = answer-says (λ s. IfSome (copied s) (λ x. device_of (call.JoinReply t o) r ≡ Some x.0.eui)) t o (λ n. tt) tt tt r
copied-device (call.Close w) r = close-says (λ s. IfSome (copied s) (λ x. device_of (call.Close w) r ≡ Some x.0.eui)) w (λ ack. tt) tt r

pub window-device : (c : Call) (r : Reply) (x : WindowName × Heard) → window_copy_in c r ≡ Some x → device_of c r ≡ Some x.0.eui
window-device c r x is = at_some (λ (y : WindowName × Heard). device_of c r ≡ Some y.0.eui) (window_copy_in c r) x is (copied-device c r)

opened-device : (c : Call) (r : Reply) (o : Opening) → window_in c r ≡ Some o → device_of c r ≡ Some o.window.eui
opened-device c r o is = window-device c r (o.window, o.heard) (at_some (λ (p : Opening). window_copy_in c r ≡ Some (p.window, p.heard)) (window_in c r) o is (opening-copy c r))

pub opening-device : (c : Call) (r : Reply) (o : Opening) → opening_in c r ≡ Some o → device_of c r ≡ Some o.window.eui
opening-device c r o is = opened-device c r o (opening-window c r o is)

pub repetition-device : (c : Call) (r : Reply) (o : Opening) → repetition_in c r ≡ Some o → device_of c r ≡ Some o.window.eui
repetition-device c r o is = opened-device c r o (repetition-window c r o is)

pub closing-device : (c : Call) (r : Reply) (x : Closing) → closing_in c r ≡ Some x → device_of c r ≡ Some x.window.eui
closing-device c r x = closed-by (λ d p. p ≡ Some x → device_of d r ≡ Some x.window.eui) (λ d no. absurd (cc no)) (λ w ack is. ap (option_map (λ (y : Closing). y.window.eui)) is) c r

pub ticket-device : (c : Call) (r : Reply) (x : Ticket × Heard) → ticket_copy_in c r ≡ Some x → device_of c r ≡ Some (dev_eui x.0)
ticket-device c r x = join_copied-by (λ d p. p ≡ Some x → device_of d r ≡ Some (dev_eui x.0)) (λ d no. absurd (cc no)) (λ t heard is. ap (option_map (λ (y : Ticket × Heard). dev_eui y.0)) is) c r

-- a kept entry of the device passes the test of what it says
with-device : {Y : Type 0} (says : Said → Option Y) (device : Y → DevEui) (keeps : Y → Bool) (x : Entry) (eui : DevEui) → ((y : Y) → says (said x.call x.reply) ≡ Some y → device_of x.call x.reply ≡ Some (device y)) →
    is_of eui x ≡ true → option_map_or keeps (says (said x.call x.reply)) false ≡ true → option_map_or (λ y. same_device (device y) eui && keeps y) (says (said x.call x.reply)) false ≡ true
with-device {Y} says device keeps x eui names mine is =
    let one = said_one keeps (says (said x.call x.reply)) is in
    let here : same_device (device one.0) eui ≡ true = sym (ap (λ o. option_map_or (λ (d : DevEui). same_device d eui) o false) (names one.0 one.1)) ∙ mine in
    says_so (λ y. same_device (device y) eui && keeps y) (says (said x.call x.reply)) one.0 one.1 (and_from _ _ here one.2)

either-holds : (a b c d : Bool) → (a ≡ true → c ≡ true) → (b ≡ true → d ≡ true) → (a || b) ≡ true → (c || d) ≡ true
either-holds a b c d p q is = grind arith

abbrev either : (Entry → List Entry → Bool) → (Entry → List Entry → Bool) → Entry → List Entry → Bool
either p q x xs = p x xs || q x xs

tally-or : (p q : Entry → List Entry → Bool) (h : List Entry) → tally (either p q) h ≤ tally p h + tally q h
tally-or p q h = tally-either (either p q) p q (λ x xs is. or_cases (p x xs) (q x xs) is) h

-- the tests of an entry of the device that is kept, by what it says
abbrev tests : DevEui → List Entry → Entry → List Entry → Bool
tests eui h x xs = a_test eui h x xs || o_test eui h x xs || r_test eui h x xs || c_test eui h x xs || w_test eui h x xs || t_test eui h x xs

kept-ways : (h : List Entry) (eui : DevEui) (x : Entry) (xs : List Entry) → (is_kept h x xs && is_of eui x) ≡ true → tests eui h x xs ≡ true
kept-ways h eui x xs is =
    let parts = and_parts (is_kept h x xs) (is_of eui x) is in
    either-holds _ _ _ _ (either-holds _ _ _ _ (either-holds _ _ _ _ (either-holds _ _ _ _ (either-holds _ _ _ _
    (with-device accepted (λ (a : Acceptance). a.eui) (keeps_acceptance h xs) x eui (acceptance-device x.call x.reply) parts.1)
    (with-device first_opened (λ (o : Opening). o.window.eui) (keeps_opening h xs) x eui (opening-device x.call x.reply) parts.1))
    (with-device repeated (λ (o : Opening). o.window.eui) (keeps_repetition h xs) x eui (repetition-device x.call x.reply) parts.1))
    (with-device closed (λ (c : Closing). c.window.eui) (keeps_closing h xs) x eui (closing-device x.call x.reply) parts.1))
    (with-device copied (λ (c : WindowName × Heard). c.0.eui) (keeps_window_copy h) x eui (window-device x.call x.reply) parts.1))
    (with-device join_copied (λ (c : Ticket × Heard). dev_eui c.0) (keeps_ticket_copy h xs) x eui (ticket-device x.call x.reply) parts.1)
    parts.0

pub kept-at-most : (net : Network) (h : List Entry) → IsLegal net h → (eui : DevEui) → count_by (is_of eui) (filter_before (is_kept h) h) ≤ most_kept
kept-at-most net h legal eui =
    let is : count_by (is_of eui) (filter_before (is_kept h) h) ≡ tally (λ x xs. is_kept h x xs && is_of eui x) h = count-tally (is_kept h) (is_of eui) h in
    let ao : Entry → List Entry → Bool = either (a_test eui h) (o_test eui h) in
    let aor : Entry → List Entry → Bool = either ao (r_test eui h) in
    let aorc : Entry → List Entry → Bool = either aor (c_test eui h) in
    let aorcw : Entry → List Entry → Bool = either aorc (w_test eui h) in
    let one : tally (λ x xs. is_kept h x xs && is_of eui x) h ≤ tally aorcw h + tally (t_test eui h) h =
    tally-either (λ x xs. is_kept h x xs && is_of eui x) aorcw (t_test eui h) (λ x xs passes. or_cases (aorcw x xs) (t_test eui h x xs) (kept-ways h eui x xs passes)) h in
    let two = tally-or aorc (w_test eui h) h in
    let three = tally-or aor (c_test eui h) h in
    let four = tally-or ao (r_test eui h) h in
    let five = tally-or (a_test eui h) (o_test eui h) h in
    let a = most-acceptances net h legal eui in
    let o = most-openings h eui in
    let r = most-repetitions h eui in
    let c = most-closings h eui in
    let w = most-window_copies net h legal eui in
    let t = most-ticket_copies net h legal eui in
    omega (arith, is, one, two, three, four, five, a, o, r, c, w, t)

pub keep-at-most : (net : Network) (h : List Entry) → IsLegal net h → (made : ℕ) (eui : DevEui) → count_by (is_of eui) (keep made (whole h)).entries ≤ most_kept
keep-at-most net h legal made eui = subst (λ (g : List Entry). count_by (is_of eui) (filter_before (is_kept g) h) ≤ most_kept) (sym (reading-whole h)) (kept-at-most net h legal eui)
