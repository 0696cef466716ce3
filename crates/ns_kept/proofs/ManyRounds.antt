-- Of many rounds of one uplink a trim keeps the last alone, and of what was before them what it keeps before one round.
use Rattle.std.proofs.Common.{◌≡◌, length, ◌≤◌, ℕ, zero, suc, ◌+◌, ◌*◌, Bool, true, false, not, ◌||◌, ◌&&◌, ◌==◌, cond, List, [], ◌∷◌, ◌++◌, map, filter, filter_map, find, Option, None, Some, option_to_list, option_map, refl, sym, ap, ap₂, ◌∙◌, arith, inl, inr}
use Rattle.std.specs.Prelude.{is_some}
use Rattle.std.specs.List.{AllByRecursion, list_any}
use Rattle.std.specs.Option.{option_map_or}
use Rattle.std.proofs.lemmas.List.{append_assoc, append-nil}
use Rattle.std.proofs.lemmas.List.Elements.{filter-append, filter_map-append}
use Rattle.std.proofs.lemmas.Bool.{or_parts, or_right, false_from_ne_true, both_ways, eq-eqb}
use Rattle.std.proofs.lemmas.List.Folds.{list_any-append}
use Rattle.ns_types.specs.declared.identity.DevEui.{DevEui}
use Rattle.ns_types.specs.declared.identity.WindowName.{WindowName}
use Rattle.ns_types.specs.declared.heard.Heard.{Heard}
use Rattle.ns_types.specs.declared.ticket.Ticket.{Ticket}
use Rattle.ns_types.specs.Identity.{same_uplink, same_window}
use Rattle.ns_calls.specs.declared.call.Call.{Call}
use Rattle.ns_calls.specs.declared.call.Reply.{Reply}
use Rattle.ns_calls.specs.declared.call.Entry.{Entry}
use Rattle.ns_calls.specs.Entries.{Acceptance, Opening, Closing, Said, said, says, accepted, first_opened, opened, closed, closes, same_device, open_windows, acceptances, openings, is_ended}
use Rattle.ns_calls.specs.declared.call.Call.TheVariants as call
use Rattle.ns_calls.specs.declared.call.Reply.TheVariants as reply
use Rattle.ns_calls.specs.Legal.{entry_of}
use Rattle.ns_calls.specs.Queries.{last}
use Rattle.ns_calls.specs.History.{copied, join_copied, first_and_other, live, is_live, open_window, is_uplink_open, asks_for, ends_ticket, open_tickets, is_ticket_open, same_ticket}
use Rattle.ns_calls.proofs.Says.{acceptance_in, opening_in, window_in, closing_in, asking_in, window_copy_in, ticket_copy_in}
use Rattle.ns_calls.proofs.Lists.{filter-all, find-none, All-weaker}
use Rattle.ns_calls.proofs.LocalLemmas.{bool_tells}
use Rattle.ns_calls.proofs.NameLemmas.{both_hold, same_window-refl, same_window-uplink, same_uplink-apart, same_uplink-refl}
use Rattle.ns_calls.proofs.PushLemmas.{open_windows-push, open_tickets-push}
use Rattle.ns_kept.specs.Kept.{same_session, none_says, keeps_acceptance, keeps_opening, keeps_repetition, keeps_closing, keeps_window_copy, keeps_ticket_copy, is_kept, filter_before, repeated}
use Rattle.ns_kept.specs.Rounds.{rounds_later, one_round, many_rounds, kept_in, kept_before}
use Rattle.ns_kept.proofs.Says.{repetition_in}

-- ---- truth values

absorb : (a b : Bool) → (b ≡ true → a ≡ true) → (a || b) ≡ a
absorb true b gives = refl
absorb false true gives = sym (gives refl)
absorb false false gives = refl

or_none : (a : Bool) → (a || false) ≡ true → a ≡ true
or_none true is = refl
or_none false is = is

or_from-left : (a b : Bool) → a ≡ true → (a || b) ≡ true
or_from-left a b is = ap (λ c. c || b) is

and_not : (a : Bool) → ((a && false) || false || false) ≡ false
and_not true = refl
and_not false = refl

and_not3 : (a : Bool) → ((a && false) || false || false || false) ≡ false
and_not3 true = refl
and_not3 false = refl

three : {a b c p q r : Bool} → a ≡ p → b ≡ q → c ≡ r → (a || b || c) ≡ (p || q || r)
three x y z = λ i. x i || y i || z i

six : {a b c d e f p q r s t u : Bool} → a ≡ p → b ≡ q → c ≡ r → d ≡ s → e ≡ t → f ≡ u → (a || b || c || d || e || f) ≡ (p || q || r || s || t || u)
six x y z k l m = λ i. x i || y i || z i || k i || l i || m i

map_or-same : {Y : Type 0} (p q : Y → Bool) → ((y : Y) → p y ≡ q y) → (o : Option Y) → option_map_or p o false ≡ option_map_or q o false
map_or-same p q same None = refl
map_or-same p q same (Some y) = same y

-- what the last entries say is said
said-last : {Y : Type 0} (part : Said → Option Y) (test : Y → Bool) (xs ys : List Entry) → list_any test (filter_map (says part) ys) ≡ true → list_any test (filter_map (says part) (xs ++ ys)) ≡ true
said-last part test xs ys is =
    ap (list_any test) (filter_map-append (says part) xs ys)
    ∙ (list_any-append test (filter_map (says part) xs) (filter_map (says part) ys) ∙ or_right (list_any test (filter_map (says part) xs)) _ is)

-- ---- what a history tells with one round more

module _ (f : List Entry) (number : ℕ) (frame : List ℕ) (heard : Heard) (w : WindowName) (ack : ℕ) where
  abbrev more : List Entry
  more = one_round number frame heard w ack

  accepted-same : filter_map (says accepted) (f ++ more) ≡ filter_map (says accepted) f
  accepted-same = filter_map-append (says accepted) f more ∙ append-nil (filter_map (says accepted) f)

  opened-same : filter_map (says first_opened) (f ++ more) ≡ filter_map (says first_opened) f
  opened-same = filter_map-append (says first_opened) f more ∙ append-nil (filter_map (says first_opened) f)

  pub acceptances-same : (eui : DevEui) → acceptances (f ++ more) eui ≡ acceptances f eui
  acceptances-same eui = ap (filter (λ (a : Acceptance). same_device a.eui eui)) accepted-same

  pub openings-same : (eui : DevEui) → openings (f ++ more) eui ≡ openings f eui
  openings-same eui = ap (filter (λ (o : Opening). same_device o.window.eui eui)) opened-same

  pub live-same : (eui : DevEui) → live (f ++ more) eui ≡ live f eui
  live-same eui =
      ap₂ (λ (os : List Opening) (as_of : List Acceptance). first_and_other (option_map (λ (o : Opening). o.window.session) (last os)) (option_map (λ (a : Acceptance). a.session) (last as_of))) (openings-same eui) (acceptances-same eui)

  abbrev opening : Opening
  opening = record { window = w; frame = frame; heard = heard }

  abbrev opens : Entry
  opens = entry_of number (call.Uplink frame heard) (reply.Again w)

  abbrev shuts : Entry
  shuts = entry_of (number + 1) (call.Close w) (reply.Closed w (Some ack))

  split : f ++ more ≡ (f ++ opens ∷ []) ++ shuts ∷ []
  split = sym (append_assoc f (opens ∷ []) (shuts ∷ []))

  -- a window that is open is of another uplink, and stays
  stay : (os : List Opening) → list_any (λ o. same_uplink o.window w) os ≡ false → filter (λ o. not (closes o.window shuts)) os ≡ os
  stay [] none = refl
  stay (o ∷ os) none =
      let parts = or_parts _ _ none in
      let other : same_window w o.window ≡ false = false_from_ne_true _ (λ is. both_ways _ parts.0 (same_uplink-back (same_window-uplink w o.window is))) in
      ap (λ b. cond {A = List Opening} (not b) (o ∷ filter (λ p. not (closes p.window shuts)) os) (filter (λ p. not (closes p.window shuts)) os)) other
      ∙ ap (λ (ps : List Opening). o ∷ ps) (stay os parts.1)
    where
      same_uplink-back : same_uplink w o.window ≡ true → same_uplink o.window w ≡ true
      same_uplink-back is = elim (bool_tells (same_uplink o.window w)) [
        | inl same ↦ same
        | inr apart ↦ absurd (both_ways _ (same_uplink-apart o.window w apart) is)
      ]

  pub open_windows-same : is_uplink_open f w ≡ false → open_windows (f ++ more) ≡ open_windows f
  open_windows-same closed_before =
      ap open_windows split
      ∙ (open_windows-push (f ++ opens ∷ []) shuts
      ∙ (append-nil (filter (λ o. not (closes o.window shuts)) (open_windows (f ++ opens ∷ [])))
      ∙ (ap (filter (λ (o : Opening). not (closes o.window shuts))) (open_windows-push f opens)
      ∙ (filter-append (λ (o : Opening). not (closes o.window shuts)) (filter (λ o. not (closes o.window opens)) (open_windows f)) (opening ∷ [])
      ∙ (ap₂ (λ (os ps : List Opening). os ++ ps)
      (ap (filter (λ (o : Opening). not (closes o.window shuts))) (filter-all (open_windows f)) ∙ stay (open_windows f) closed_before)
      (ap (λ b. cond {A = List Opening} (not b) (opening ∷ []) []) (same_window-refl w))
      ∙ append-nil (open_windows f))))))

  pub open_tickets-same : open_tickets (f ++ more) ≡ open_tickets f
  open_tickets-same =
      ap open_tickets split
      ∙ (open_tickets-push (f ++ opens ∷ []) shuts
      ∙ (append-nil (filter (λ t. not (ends_ticket t shuts)) (open_tickets (f ++ opens ∷ [])))
      ∙ (filter-all (open_tickets (f ++ opens ∷ []))
      ∙ (open_tickets-push f opens
      ∙ (append-nil (filter (λ t. not (ends_ticket t opens)) (open_tickets f))
      ∙ filter-all (open_tickets f))))))

  is_live-same : (eui : DevEui) (session : ℕ) → is_live (f ++ more) eui session ≡ is_live f eui session
  is_live-same eui session = ap (list_any (λ s. s == session)) (live-same eui)

  -- what no entry says is said by none with one round more, where what that says is said already
  none_says-more : {Y : Type 0} (part : Said → Option Y) (test : Y → Bool) (xs : List Entry) → (list_any test (filter_map (says part) more) ≡ true → list_any test (filter_map (says part) xs) ≡ true) → none_says part test (xs ++ more) ≡ none_says part test xs
  none_says-more part test xs already =
      ap (λ ys. not (list_any test ys)) (filter_map-append (says part) xs more)
      ∙ ap not (list_any-append test (filter_map (says part) xs) (filter_map (says part) more) ∙ absorb (list_any test (filter_map (says part) xs)) (list_any test (filter_map (says part) more)) already)

  -- an entry is kept with one round more where it is kept without that, where a round of its uplink was already closed
  pub kept-same : is_uplink_open f w ≡ false → (xs : List Entry)
      → ((v : WindowName) → same_session w v ≡ true → list_any (λ (p : Opening). same_session p.window v) (filter_map (says repeated) xs) ≡ true)
      → ((v : WindowName) → same_session w v ≡ true → list_any (λ (d : Closing). is_some d.ack && same_session d.window v) (filter_map (says closed) xs) ≡ true)
      → (e : Entry) → is_kept (f ++ more) e (xs ++ more) ≡ is_kept f e xs
  kept-same closed_before xs repeats acknowledges e =
      let windows = open_windows-same closed_before in
      let s : Said = said e.call e.reply in
      six
      (map_or-same (keeps_acceptance (f ++ more) (xs ++ more)) (keeps_acceptance f xs)
      (λ a. three (none_says-more accepted (λ (b : Acceptance). same_device b.eui a.eui) xs (λ is. absurd (cc is))) (is_live-same a.eui a.session) (ap (list_any (λ (o : Opening). same_device o.window.eui a.eui && (o.window.session == a.session))) windows))
      (accepted s))
      (map_or-same (keeps_opening (f ++ more) (xs ++ more)) (keeps_opening f xs)
      (λ o. ap₂ (λ b c. b || c) (none_says-more first_opened (λ (p : Opening). same_device p.window.eui o.window.eui) xs (λ is. absurd (cc is)))
      (ap₂ (λ b c. b && c) (is_live-same o.window.eui o.window.session) (none_says-more first_opened (λ (p : Opening). same_session p.window o.window) xs (λ is. absurd (cc is)))))
      (first_opened s))
      (map_or-same (keeps_repetition (f ++ more) (xs ++ more)) (keeps_repetition f xs)
      (λ o. ap₂ (λ b c. b && c) (is_live-same o.window.eui o.window.session) (none_says-more repeated (λ (p : Opening). same_session p.window o.window) xs (λ is. repeats o.window (or_none _ is))))
      (repeated s))
      (map_or-same (keeps_closing (f ++ more) (xs ++ more)) (keeps_closing f xs)
      (λ c. ap₂ (λ b d. is_some c.ack && b && d) (is_live-same c.window.eui c.window.session) (none_says-more closed (λ (d : Closing). is_some d.ack && same_session d.window c.window) xs (λ is. acknowledges c.window (or_none _ is))))
      (closed s))
      (map_or-same (keeps_window_copy (f ++ more)) (keeps_window_copy f) (λ c. ap (λ os. is_some (find (λ (o : Opening). same_window o.window c.0) os)) windows) (copied s))
      (map_or-same (keeps_ticket_copy (f ++ more) (xs ++ more)) (keeps_ticket_copy f xs)
      (λ c. ap₂ (λ b d. b && not d) (ap (list_any (same_ticket c.0)) open_tickets-same) (list_any-append (asks_for c.0) xs more ∙ absorb (list_any (asks_for c.0) xs) false (λ is. absurd (cc is))))
      (join_copied s))

  -- one round is kept where nothing follows it
  pub last-kept : is_live f w.eui w.session ≡ true → filter_before (is_kept (f ++ more)) more ≡ more
  last-kept lives =
      let here : is_live (f ++ more) w.eui w.session ≡ true = is_live-same w.eui w.session ∙ lives in
      let first : is_kept (f ++ more) opens (shuts ∷ []) ≡ true = ap (λ b. (b && true) || false || is_some (open_window (f ++ more) w) || false) here in
      let second : is_kept (f ++ more) shuts [] ≡ true = ap (λ b. (b && true) || false || false) here in
      ap₂ (λ b c. cond b (opens ∷ cond c (shuts ∷ []) []) (cond c (shuts ∷ []) [])) first second

-- ---- a round behind one that is closed

filter_before-append : (test : Entry → List Entry → Bool) (xs ys : List Entry) → filter_before test (xs ++ ys) ≡ filter_before (λ e after. test e (after ++ ys)) xs ++ filter_before test ys
filter_before-append test [] ys = refl
filter_before-append test (x ∷ xs) ys = step (test x (xs ++ ys)) (filter_before-append test xs ys)
  where
    step : (b : Bool) → filter_before test (xs ++ ys) ≡ filter_before (λ e after. test e (after ++ ys)) xs ++ filter_before test ys
        → cond b (x ∷ filter_before test (xs ++ ys)) (filter_before test (xs ++ ys)) ≡ cond b (x ∷ filter_before (λ e after. test e (after ++ ys)) xs) (filter_before (λ e after. test e (after ++ ys)) xs) ++ filter_before test ys
    step true rest = ap (λ (zs : List Entry). x ∷ zs) rest
    step false rest = rest

filter_before-same : (p q : Entry → List Entry → Bool) → ((e : Entry) (after : List Entry) → p e after ≡ q e after) → (xs : List Entry) → filter_before p xs ≡ filter_before q xs
filter_before-same p q same [] = refl
filter_before-same p q same (x ∷ xs) = ap₂ (λ b zs. cond b (x ∷ zs) zs) (same x xs) (filter_before-same p q same xs)

module _ (h : List Entry) (number : ℕ) (frame : List ℕ) (heard : Heard) (w : WindowName) (ack : ℕ) (closed_before : is_uplink_open h w ≡ false) where
  abbrev now : List Entry
  now = one_round number frame heard w ack

  abbrev later : List Entry
  later = one_round (number + 2) frame heard (rounds_later 1 w) (ack + 1)

  pub still-closed : is_uplink_open (h ++ now) (rounds_later 1 w) ≡ false
  still-closed = ap (list_any (λ (o : Opening). same_uplink o.window w)) (open_windows-same h number frame heard w ack closed_before) ∙ closed_before

  pub still-lives : is_live h w.eui w.session ≡ true → is_live (h ++ now) w.eui w.session ≡ true
  still-lives lives = is_live-same h number frame heard w ack w.eui w.session ∙ lives

  unopened : (os : List Opening) → list_any (λ o. same_uplink o.window w) os ≡ false → find (λ (o : Opening). same_window o.window w) os ≡ None
  unopened [] none = refl
  unopened (o ∷ os) none =
      let parts = or_parts _ _ none in
      ap (λ b. cond b (Some o) (find (λ (p : Opening). same_window p.window w) os)) (false_from_ne_true _ (λ is. both_ways _ parts.0 (same_window-uplink o.window w is))) ∙ unopened os parts.1

  windows : open_windows ((h ++ now) ++ later) ≡ open_windows h
  windows = open_windows-same (h ++ now) (number + 2) frame heard (rounds_later 1 w) (ack + 1) still-closed ∙ open_windows-same h number frame heard w ack closed_before

  session-same : same_session w w ≡ true
  session-same = both_hold _ _ (eq-eqb w.eui.0 w.eui.0 refl) (eq-eqb w.session w.session refl)

  abbrev full : List Entry
  full = (h ++ now) ++ later

  not_opens : is_kept full (opens h number frame heard w ack) (shuts h number frame heard w ack ∷ later) ≡ false
  not_opens =
      ap₂ (λ (b : Bool) (o : Option Opening). (is_live full w.eui w.session && not (b || false)) || false || is_some o || false) session-same
      (ap (find (λ (o : Opening). same_window o.window w)) windows ∙ unopened (open_windows h) closed_before)
      ∙ and_not3 (is_live full w.eui w.session)

  not_shuts : is_kept full (shuts h number frame heard w ack) later ≡ false
  not_shuts = ap (λ b. (is_live full w.eui w.session && not (b || false)) || false || false) session-same ∙ and_not (is_live full w.eui w.session)

  gone : filter_before (λ e after. is_kept full e (after ++ later)) now ≡ []
  gone = ap₂ (λ b c. cond b (opens h number frame heard w ack ∷ cond c (shuts h number frame heard w ack ∷ []) []) (cond c (shuts h number frame heard w ack ∷ []) [])) not_opens not_shuts

  -- what is kept before a round is kept before the next one too
  pub kept_before-next : (es : List Entry) → kept_before (h ++ now) (es ++ now) later ≡ kept_before h es now
  kept_before-next es =
      filter_before-append (λ e after. is_kept full e (after ++ later)) es now
      ∙ (ap₂ (λ (xs ys : List Entry). xs ++ ys)
      (filter_before-same (λ e after. is_kept full e ((after ++ now) ++ later)) (λ e after. is_kept (h ++ now) e (after ++ now))
      (λ e after. kept-same (h ++ now) (number + 2) frame heard (rounds_later 1 w) (ack + 1) still-closed (after ++ now)
      (λ v same. said-last repeated (λ (p : Opening). same_session p.window v) after now (or_from-left _ false same))
      (λ v same. said-last closed (λ (d : Closing). is_some d.ack && same_session d.window v) after now (or_from-left _ false same)) e)
      es)
      gone
      ∙ append-nil (kept_before h es now))

  -- a trim keeps one round
  pub kept-one : (es : List Entry) → is_live h w.eui w.session ≡ true → kept_in (h ++ now) (es ++ now) ≡ kept_before h es now ++ now
  kept-one es lives = filter_before-append (is_kept (h ++ now)) es now ∙ ap (λ zs. kept_before h es now ++ zs) (last-kept h number frame heard w ack lives)

-- ---- many rounds

pub kept-many : (n : ℕ) (h es : List Entry) (number : ℕ) (frame : List ℕ) (heard : Heard) (w : WindowName) (ack : ℕ) → is_uplink_open h w ≡ false → is_live h w.eui w.session ≡ true
    → let rounds : List Entry = many_rounds (suc n) number frame heard w ack in
    kept_in (h ++ rounds) (es ++ rounds) ≡ kept_before h es (one_round number frame heard w ack) ++ one_round (number + n * 2) frame heard (rounds_later n w) (ack + n)
kept-many zero h es number frame heard w ack closed_before lives =
    let numbers : number + 0 * 2 ≡ number = omega arith in
    let acks : ack + 0 ≡ ack = omega arith in
    let rounds : w.round + 0 ≡ w.round = omega arith in
    kept-one h number frame heard w ack closed_before es lives
    ∙ (λ i. kept_before h es (one_round number frame heard w ack) ++ one_round (sym numbers i) frame heard (record w { round = sym rounds i }) (sym acks i))
kept-many (suc n) h es number frame heard w ack closed_before lives =
    let numbers : number + 2 + n * 2 ≡ number + suc n * 2 = omega arith in
    let acks : ack + 1 + n ≡ ack + suc n = omega arith in
    let rounds : w.round + 1 + n ≡ w.round + suc n = omega arith in
    let now : List Entry = one_round number frame heard w ack in
    let rest : List Entry = many_rounds (suc n) (number + 2) frame heard (rounds_later 1 w) (ack + 1) in
    ap₂ kept_in (sym (append_assoc h now rest)) (sym (append_assoc es now rest))
    ∙ (kept-many n (h ++ now) (es ++ now) (number + 2) frame heard (rounds_later 1 w) (ack + 1) (still-closed h number frame heard w ack closed_before) (still-lives h number frame heard w ack closed_before lives)
    ∙ (λ i. kept_before-next h number frame heard w ack closed_before es i ++ one_round (numbers i) frame heard (record w { round = rounds i }) (acks i)))

-- the open windows after them
pub open_windows-many : (n : ℕ) (h : List Entry) (number : ℕ) (frame : List ℕ) (heard : Heard) (w : WindowName) (ack : ℕ) → is_uplink_open h w ≡ false → open_windows (h ++ many_rounds n number frame heard w ack) ≡ open_windows h
open_windows-many zero h number frame heard w ack closed_before = ap open_windows (append-nil h)
open_windows-many (suc n) h number frame heard w ack closed_before =
    let now : List Entry = one_round number frame heard w ack in
    ap open_windows (sym (append_assoc h now (many_rounds n (number + 2) frame heard (rounds_later 1 w) (ack + 1))))
    ∙ (open_windows-many n (h ++ now) (number + 2) frame heard (rounds_later 1 w) (ack + 1) (still-closed h number frame heard w ack closed_before)
    ∙ open_windows-same h number frame heard w ack closed_before)

-- the open tickets after them
pub open_tickets-many : (n : ℕ) (h : List Entry) (number : ℕ) (frame : List ℕ) (heard : Heard) (w : WindowName) (ack : ℕ) → open_tickets (h ++ many_rounds n number frame heard w ack) ≡ open_tickets h
open_tickets-many zero h number frame heard w ack = ap open_tickets (append-nil h)
open_tickets-many (suc n) h number frame heard w ack =
    let now : List Entry = one_round number frame heard w ack in
    ap open_tickets (sym (append_assoc h now (many_rounds n (number + 2) frame heard (rounds_later 1 w) (ack + 1))))
    ∙ (open_tickets-many n (h ++ now) (number + 2) frame heard (rounds_later 1 w) (ack + 1)
    ∙ open_tickets-same h number frame heard w ack)

-- ---- one round more behind a trim

filter_before-short : (test : Entry → List Entry → Bool) (xs : List Entry) → length (filter_before test xs) ≤ length xs
filter_before-short test [] = omega arith
filter_before-short test (x ∷ xs) = step (test x xs) (filter_before-short test xs)
  where
    step : (b : Bool) → length (filter_before test xs) ≤ length xs → length (cond b (x ∷ filter_before test xs) (filter_before test xs)) ≤ suc (length xs)
    step true le = omega (arith, le)
    step false le = omega (arith, le)

-- where all are kept, the first ones are
all-kept : (test : Entry → List Entry → Bool) (es ys : List Entry) → filter_before test (es ++ ys) ≡ es ++ ys → filter_before (λ e after. test e (after ++ ys)) es ≡ es
all-kept test [] ys is = refl
all-kept test (e ∷ es) ys is = step (test e (es ++ ys)) is (all-kept test es ys)
  where
    step : (b : Bool) → cond b (e ∷ filter_before test (es ++ ys)) (filter_before test (es ++ ys)) ≡ e ∷ (es ++ ys) → (filter_before test (es ++ ys) ≡ es ++ ys → filter_before (λ x after. test x (after ++ ys)) es ≡ es)
        → cond b (e ∷ filter_before (λ x after. test x (after ++ ys)) es) (filter_before (λ x after. test x (after ++ ys)) es) ≡ e ∷ es
    step true all rest = ap (λ (xs : List Entry). e ∷ xs) (rest (cc all))
    step false all rest =
        let short = filter_before-short test (es ++ ys) in
        let long : length (filter_before test (es ++ ys)) ≡ suc (length (es ++ ys)) = ap length all in
        absurd (omega (arith, short, long))

module _ (f : List Entry) (number next : ℕ) (frame : List ℕ) (heard : Heard) (w : WindowName) (ack : ℕ) (shut : is_uplink_open f w ≡ false) where
  abbrev last_one : List Entry
  last_one = one_round number frame heard w ack

  abbrev new_one : List Entry
  new_one = one_round next frame heard (rounds_later 1 w) (ack + 1)

  abbrev then : List Entry
  then = f ++ new_one

  own-session : same_session w w ≡ true
  own-session = both_hold _ _ (eq-eqb w.eui.0 w.eui.0 refl) (eq-eqb w.session w.session refl)

  drops-opens : is_kept then (opens f number frame heard w ack) (shuts f number frame heard w ack ∷ new_one) ≡ false
  drops-opens =
      ap₂ (λ (b : Bool) (o : Option Opening). (is_live then w.eui w.session && not (b || false)) || false || is_some o || false) own-session
      (ap (find (λ (o : Opening). same_window o.window w)) (open_windows-same f next frame heard (rounds_later 1 w) (ack + 1) shut) ∙ unopened f number frame heard w ack shut (open_windows f) shut)
      ∙ and_not3 (is_live then w.eui w.session)

  drops-shuts : is_kept then (shuts f number frame heard w ack) new_one ≡ false
  drops-shuts = ap (λ b. (is_live then w.eui w.session && not (b || false)) || false || false) own-session ∙ and_not (is_live then w.eui w.session)

  -- behind a trim that ends with a round one round more takes the place of that one, and all before it stays
  pub kept_before-trimmed : (es : List Entry) → kept_in f (es ++ last_one) ≡ es ++ last_one → kept_before f (es ++ last_one) new_one ≡ es
  kept_before-trimmed es trimmed =
      filter_before-append (λ e after. is_kept then e (after ++ new_one)) es last_one
      ∙ (ap₂ (λ (xs ys : List Entry). xs ++ ys)
      (filter_before-same (λ e after. is_kept then e ((after ++ last_one) ++ new_one)) (λ e after. is_kept f e (after ++ last_one))
      (λ e after. kept-same f next frame heard (rounds_later 1 w) (ack + 1) shut (after ++ last_one)
      (λ v same. said-last repeated (λ (p : Opening). same_session p.window v) after last_one (or_from-left _ false same))
      (λ v same. said-last closed (λ (d : Closing). is_some d.ack && same_session d.window v) after last_one (or_from-left _ false same)) e)
      es
      ∙ all-kept (is_kept f) es last_one trimmed)
      (ap₂ (λ b c. cond b (opens f number frame heard w ack ∷ cond c (shuts f number frame heard w ack ∷ []) []) (cond c (shuts f number frame heard w ack ∷ []) [])) drops-opens drops-shuts)
      ∙ append-nil es)
