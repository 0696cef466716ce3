-- What is still open was opened by one element, and ended by none after it.
use Rattle.std.proofs.Common.{◌≡◌, zero, suc, Bool, true, false, not, ◌||◌, cond, List, [], ◌∷◌, ◌++◌, filter, find, Option, None, Some, option_to_list, refl, sym, ap, subst, ◌∙◌, arith, inl, inr}
use Rattle.std.proofs.lemmas.Bool.{cond_both, not-true, or_parts}
use Rattle.std.specs.List.{AllByRecursion, list_any, Contains}
use Rattle.std.proofs.lemmas.List.Elements.{Contains-append_left, Contains-append_right, Contains-append_cases}
use Rattle.std.proofs.lemmas.Option.{same_Some}
use Rattle.ns_types.specs.declared.ticket.Ticket.{Ticket}
use Rattle.ns_calls.specs.declared.call.Entry.{Entry}
use Rattle.ns_calls.specs.Entries.{is_ended, still_open, Opening, closes, open_windows}
use Rattle.ns_calls.specs.History.{ends_ticket, open_tickets}
use Rattle.ns_calls.proofs.Says.{window_in, asking_in}
use Rattle.ns_calls.specs.Open.{IsOpenWindow}
use Rattle.ns_calls.specs.Headline.{IsOpenTicket}

-- an element opens x, and none after it ends it
record Stands {E X : Type 0} (opens : E → Option X) (ends : X → E → Bool) (es : List E) (x : X) : Type 0 where
  before : List E
  entry : E
  after : List E
  is : es ≡ before ++ entry ∷ after
  opened : opens entry ≡ Some x
  stays : AllByRecursion (λ e. ends x e ≡ false) after

pub none-each : {E : Type 0} (test : E → Bool) (es : List E) → list_any test es ≡ false → AllByRecursion (λ e. test e ≡ false) es
none-each test [] is = tt
none-each test (e ∷ es) is = (let both = or_parts (test e) (list_any test es) is in (both.0, none-each test es both.1))

each-none : {E : Type 0} (test : E → Bool) (es : List E) → AllByRecursion (λ e. test e ≡ false) es → list_any test es ≡ false
each-none test [] all = refl
each-none test (e ∷ es) all = ap (λ b. b || list_any test es) all.0 ∙ each-none test es all.1

no_element : {X : Type 0} (x : X) → Contains [] x → ⊥
no_element x has = let lt = has.1 in omega (arith, lt)

the_element : {X : Type 0} (y x : X) → Contains (y ∷ []) x → y ≡ x
the_element y x (zero, lt, is) = is
the_element y x (suc k, lt, is) = absurd (omega (arith, lt))

-- what a filter leaves of one that may be there
kept_one : {X : Type 0} (keep : X → Bool) (o : Option X) (x : X) → Contains (filter keep (option_to_list o)) x → (o ≡ Some x) × (keep x ≡ true)
kept_one keep None x has = absurd (no_element x has)
kept_one keep (Some y) x has =
    (cond_both (keep y) (y ∷ []) [] (λ ys. Contains ys x → (Some y ≡ Some x) × (keep x ≡ true))
    (λ kept there. (let same : y ≡ x = the_element y x there in (ap Some same, subst (λ z. keep z ≡ true) same kept))) (λ _ there. absurd (no_element x there))) has

pub not_false : (b : Bool) → not b ≡ true → b ≡ false
not_false = not-true

opened-stands : {E X : Type 0} (opens : E → Option X) (ends : X → E → Bool) (es : List E) (x : X) → Contains (still_open opens ends es) x → Stands opens ends es x
opened-stands opens ends [] x has = absurd (no_element x has)
opened-stands {E} {X} opens ends (e ∷ es) x has =
    let keep : X → Bool = λ y. not (is_ended ends es y) in
    elim (Contains-append_cases (filter keep (option_to_list (opens e))) (still_open opens ends es) x has) [
      | inl here ↦
          (let one = kept_one keep (opens e) x here in
          record { before = []; entry = e; after = es; is = refl; opened = one.0; stays = none-each (ends x) es (not_false (is_ended ends es x) one.1) })
      | inr later ↦
          (let s = opened-stands opens ends es x later in
          record { before = e ∷ s.before; entry = s.entry; after = s.after; is = ap (λ l. e ∷ l) s.is; opened = s.opened; stays = s.stays })
    ]

one_kept : {X : Type 0} (keep : X → Bool) (o : Option X) (x : X) → o ≡ Some x → keep x ≡ true → Contains (filter keep (option_to_list o)) x
one_kept {X} keep o x is kept =
    let whole : filter keep (option_to_list o) ≡ x ∷ [] = ap (λ (p : Option X). filter keep (option_to_list p)) is ∙ ap (λ b. cond {A = List X} b (x ∷ []) []) kept in
    subst (λ (l : List X). Contains l x) (sym whole) (0, omega arith, refl)

stands-from : {E X : Type 0} (opens : E → Option X) (ends : X → E → Bool) (before : List E) (e : E) (after : List E) (x : X) → opens e ≡ Some x → AllByRecursion (λ y. ends x y ≡ false) after → Contains (still_open opens ends (before ++ e ∷ after)) x
stands-from {E} {X} opens ends [] e after x is stays =
    let keep : X → Bool = λ y. not (is_ended ends after y) in
    Contains-append_left (filter keep (option_to_list (opens e))) (still_open opens ends after) x
    (one_kept keep (opens e) x is (ap not (each-none (ends x) after stays)))
stands-from {E} {X} opens ends (b ∷ before) e after x is stays =
    let rest : List E = before ++ e ∷ after in
    Contains-append_right (filter (λ y. not (is_ended ends rest y)) (option_to_list (opens b))) (still_open opens ends rest) x (stands-from opens ends before e after x is stays)

pub open_window-is : (h : List Entry) (o : Opening) → Contains (open_windows h) o → IsOpenWindow h o
open_window-is h o has =
    let s = opened-stands (λ (e : Entry). window_in e.call e.reply) (λ (p : Opening) e. closes p.window e) h o has in
    record { before = s.before; entry = s.entry; after = s.after; is = s.is; opens = s.opened; not_closed = s.stays }

pub is-open_window : (h : List Entry) (o : Opening) → IsOpenWindow h o → Contains (open_windows h) o
is-open_window h o s =
    subst (λ es. Contains (open_windows es) o) (sym s.is) (stands-from (λ (e : Entry). window_in e.call e.reply) (λ (p : Opening) e. closes p.window e) s.before s.entry s.after o s.opens s.not_closed)

pub open_ticket-is : (h : List Entry) (t : Ticket) → Contains (open_tickets h) t → IsOpenTicket h t
open_ticket-is h t has =
    let s = opened-stands (λ (e : Entry). asking_in e.call e.reply) ends_ticket h t has in
    record { before = s.before; entry = s.entry; after = s.after; is = s.is; asks = s.opened; not_ended = s.stays }

pub is-open_ticket : (h : List Entry) (t : Ticket) → IsOpenTicket h t → Contains (open_tickets h) t
is-open_ticket h t s =
    subst (λ es. Contains (open_tickets es) t) (sym s.is) (stands-from (λ (e : Entry). asking_in e.call e.reply) ends_ticket s.before s.entry s.after t s.asks s.not_ended)

-- what is found is an element
pub find-contained : {X : Type 0} (test : X → Bool) (xs : List X) (x : X) → find test xs ≡ Some x → Contains xs x
find-contained test [] x is = absurd (cc is)
find-contained {X} test (y ∷ ys) x is =
    (elim (test y) as (λ b. cond {A = Option X} b (Some y) (find test ys) ≡ Some x → Contains (y ∷ ys) x) [
      | true ↦ λ found. (0, omega arith, same_Some y x found)
      | false ↦ λ found. Contains-append_right (y ∷ []) ys x (find-contained test ys x found)
    ]) is
