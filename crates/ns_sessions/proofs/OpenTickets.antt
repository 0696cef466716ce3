-- A device's open tickets and their copies, with one entry more.
use Rattle.std.proofs.Common.{◌≡◌, Bool, true, false, not, ◌||◌, List, [], ◌∷◌, ◌++◌, filter, filter_map, map, Option, None, Some, IfSome, option_to_list, refl, ap, ◌∙◌, arith, inl, inr}
use Rattle.std.specs.List.{AllByRecursion, cons_option, list_any}
use Rattle.std.proofs.lemmas.List.{append-nil}
use Rattle.std.proofs.lemmas.List.Elements.{filter-append}
use Rattle.std.proofs.lemmas.Bool.Decides.{nat_tests}
use Rattle.std.proofs.lemmas.Slice.Eq.{bytes_eq-Decides}
use Rattle.ns_types.specs.declared.identity.DevEui.{DevEui}
use Rattle.ns_types.specs.declared.heard.Heard.{Heard}
use Rattle.ns_types.specs.declared.ticket.Ticket.{Ticket}
use Rattle.ns_types.specs.Ticket.{dev_eui}
use Rattle.ns_types.specs.Heard.{best}
use Rattle.ns_calls.specs.declared.call.Entry.{Entry}
use Rattle.ns_calls.specs.Entries.{same_device}
use Rattle.ns_calls.specs.History.{same_ticket, asks_for, ends_ticket, open_tickets, copies_of_ticket, ticket_copies}
use Rattle.ns_calls.proofs.Says.{is_ticket, asking_in, ending_in, ticket_copy_in, asking-copy}
use Rattle.ns_calls.proofs.LocalLemmas.{bool_tells}
use Rattle.ns_calls.proofs.LocalJoin.{none_single}
use Rattle.ns_calls.proofs.Lists.{All-append, All-weaker, All-filter, said, said-push}
use Rattle.ns_calls.proofs.TicketLemmas.{same_ticket-eq}
use Rattle.ns_calls.proofs.PushLemmas.{open_tickets-push, ticket_copies-push}
use Rattle.ns_sessions.specs.Record.{ticket_record, tickets_of}
use Rattle.ns_sessions.proofs.Records.{tickets_said, none_added}
use Rattle.std.specs.Prelude.{is_some}
use Rattle.std.proofs.Math.Bool.{or-false, or-true}

pub same_ticket-refl : (t : Ticket) → same_ticket t t ≡ true
same_ticket-refl t = (bytes_eq-Decides t.0 t.0).1 refl

pub same_ticket-sym : (t u : Ticket) (b : Bool) → same_ticket t u ≡ b → same_ticket u t ≡ b
same_ticket-sym t u b is = grind (arith, same_ticket-eq t u, same_ticket-eq u t, same_ticket-refl)

pub same_device-refl : (d : DevEui) → same_device d d ≡ true
same_device-refl d = grind (arith, nat_tests)

-- tickets of different devices differ
pub other_device : (eui : DevEui) (t u : Ticket) → same_device (dev_eui t) eui ≡ true → same_device (dev_eui u) eui ≡ false → same_ticket t u ≡ false
other_device eui t u mine other = grind (arith, same_ticket-eq t u)

-- ---- what is open was asked for

pub open_asked : (h : List Entry) → AllByRecursion (λ t. list_any (asks_for t) h ≡ true) (open_tickets h)
open_asked [] = tt
open_asked (e ∷ after) =
    All-append (λ t. list_any (asks_for t) (e ∷ after) ≡ true) (filter (λ t. not (list_any (ends_ticket t) after)) (option_to_list (asking_in e.call e.reply))) (open_tickets after)
    (All-filter (λ t. list_any (asks_for t) (e ∷ after) ≡ true) (λ t. not (list_any (ends_ticket t) after)) (option_to_list (asking_in e.call e.reply)) (first (asking_in e.call e.reply) refl))
    (All-weaker (λ t. list_any (asks_for t) after ≡ true) (λ t. list_any (asks_for t) (e ∷ after) ≡ true) (λ t is. rw (is, or-true)) (open_tickets after) (open_asked after))
  where
    first : (o : Option Ticket) → asking_in e.call e.reply ≡ o → AllByRecursion (λ t. (is_ticket t (asking_in e.call e.reply) || list_any (asks_for t) after) ≡ true) (option_to_list o)
    first None is = tt
    first (Some t) is = (ap (λ (o : Option Ticket). is_ticket t o || list_any (asks_for t) after) is ∙ ap (λ b. b || list_any (asks_for t) after) (same_ticket-refl t), tt)

-- a property of each ticket of a list is one of a ticket that is there
pub at_member : (P : Ticket → Type 0) (t : Ticket) (ts : List Ticket) → list_any (same_ticket t) ts ≡ true → AllByRecursion P ts → P t
at_member P t [] is all = absurd (cc is)
at_member P t (u ∷ ts) is all = grind (arith, same_ticket-eq t u, at_member P t ts)

-- ---- copies

-- the copies of a ticket that was asked for, with an entry that doesn't ask for it
pub copies_more : (h : List Entry) (e : Entry) (t : Ticket) → asks_for t e ≡ false → list_any (asks_for t) h ≡ true → ticket_copies (h ++ e ∷ []) t ≡ ticket_copies h t ++ copies_of_ticket (e ∷ []) t
copies_more h e t not_now before = grind (arith, ticket_copies-push h e t)

-- the copies that one entry adds
abbrev pub copies_said : Ticket → Option (Ticket × Heard) → List Heard
copies_said t said = map (λ c. c.1) (filter (λ c. same_ticket t c.0) (option_to_list said))

pub copies_in : (e : Entry) (t : Ticket) → copies_of_ticket (e ∷ []) t ≡ copies_said t (ticket_copy_in e.call e.reply)
copies_in e t = ap (map (λ (c : Ticket × Heard). c.1)) (said-push (λ (x : Entry). ticket_copy_in x.call x.reply) (λ (c : Ticket × Heard). same_ticket t c.0) [] e)

best_first : (t : Ticket) (o : Option (Ticket × Heard)) (rest : List (Ticket × Heard)) (u : Ticket) (heard : Heard) → o ≡ Some (u, heard) → same_ticket t u ≡ true →
    is_some (best (map (λ (c : Ticket × Heard). c.1) (filter (λ (c : Ticket × Heard). same_ticket t c.0) (cons_option o rest)))) ≡ true
best_first t o rest u heard is same = grind arith

-- a ticket that was asked for has a copy
pub asked_copies : (h : List Entry) (t : Ticket) → list_any (asks_for t) h ≡ true → is_some (best (ticket_copies h t)) ≡ true
asked_copies [] t is = absurd (cc is)
asked_copies (e ∷ after) t is =
    elim (bool_tells (list_any (asks_for t) after)) [
      | inl later ↦ rw later (asked_copies after t later)
      | inr none ↦
          (let here : asks_for t e ≡ true = rw (none, or-false) at is in
          let copy = asking-copy t e.call e.reply here in
          rw (none, here) (best_first t (ticket_copy_in e.call e.reply) (filter_map (λ (x : Entry). ticket_copy_in x.call x.reply) after) copy.0 copy.1 copy.2 copy.3))
    ]

-- ---- an entry that says nothing of a device's tickets

pub record IsQuiet (eui : DevEui) (e : Entry) : Type 0 where
  pub asks : IfSome (asking_in e.call e.reply) (λ t. same_device (dev_eui t) eui ≡ false)
  pub ends : IfSome (ending_in e.call e.reply) (λ t. same_device (dev_eui t) eui ≡ false)
  pub copies : IfSome (ticket_copy_in e.call e.reply) (λ c. same_device (dev_eui c.0) eui ≡ false)

is_other : (eui : DevEui) (t : Ticket) (o : Option Ticket) → same_device (dev_eui t) eui ≡ true → IfSome o (λ u. same_device (dev_eui u) eui ≡ false) → is_ticket t o ≡ false
is_other eui t None mine other = refl
is_other eui t (Some u) mine other = other_device eui t u mine other

no_copy : (eui : DevEui) (t : Ticket) (o : Option (Ticket × Heard)) → same_device (dev_eui t) eui ≡ true → IfSome o (λ c. same_device (dev_eui c.0) eui ≡ false) → copies_said t o ≡ []
no_copy eui t None mine other = refl
no_copy eui t (Some c) mine other = ap (map (λ (x : Ticket × Heard). x.1)) (none_single (λ (x : Ticket × Heard). same_ticket t x.0) c (other_device eui t c.0 mine other))

-- those of a device among the tickets that stay
kept_of : (eui : DevEui) (keep : Ticket → Bool) → ((t : Ticket) → same_device (dev_eui t) eui ≡ true → keep t ≡ true) → (ts : List Ticket) →
    filter (λ t. same_device (dev_eui t) eui) (filter keep ts) ≡ filter (λ t. same_device (dev_eui t) eui) ts
kept_of eui keep stays [] = refl
kept_of eui keep stays (t ∷ ts) = grind (arith, stays t, kept_of eui keep stays ts)

pub tickets_of-stay : (h : List Entry) (e : Entry) (eui : DevEui) → IfSome (asking_in e.call e.reply) (λ t. same_device (dev_eui t) eui ≡ false) → IfSome (ending_in e.call e.reply) (λ t. same_device (dev_eui t) eui ≡ false) →
    tickets_of (h ++ e ∷ []) eui ≡ tickets_of h eui
tickets_of-stay h e eui asks ends =
    let own : Ticket → Bool = λ t. same_device (dev_eui t) eui in
    let keep : Ticket → Bool = λ t. not (ends_ticket t e) in
    ap (filter own) (open_tickets-push h e)
    ∙ (filter-append own (filter keep (open_tickets h)) (option_to_list (asking_in e.call e.reply))
    ∙ (none_added own (filter own (filter keep (open_tickets h))) (asking_in e.call e.reply) asks
    ∙ kept_of eui keep (λ t mine. ap not (is_other eui t (ending_in e.call e.reply) mine ends)) (open_tickets h)))

-- records of tickets whose copies are the same
pub same_records : (h g : List Entry) (ts : List Ticket) → AllByRecursion (λ t. ticket_copies g t ≡ ticket_copies h t) ts → map (ticket_record g) ts ≡ map (ticket_record h) ts
same_records h g [] same = refl
same_records h g (t ∷ ts) same = cc (same_records h g ts same.1)

-- the open tickets of a device are its own, and were asked for
pub record IsOwnAsked (h : List Entry) (eui : DevEui) (t : Ticket) : Type 0 where
  pub mine : same_device (dev_eui t) eui ≡ true
  pub asked : list_any (asks_for t) h ≡ true

own_asked : (h : List Entry) (eui : DevEui) (ts : List Ticket) → AllByRecursion (λ t. list_any (asks_for t) h ≡ true) ts → AllByRecursion (IsOwnAsked h eui) (filter (λ t. same_device (dev_eui t) eui) ts)
own_asked h eui [] all = tt
own_asked h eui (t ∷ ts) all = grind (arith, own_asked h eui ts all.1)

pub tickets_own : (h : List Entry) (eui : DevEui) → AllByRecursion (IsOwnAsked h eui) (tickets_of h eui)
tickets_own h eui = own_asked h eui (open_tickets h) (open_asked h)

pub tickets_stay : (h : List Entry) (e : Entry) (eui : DevEui) → IsQuiet eui e → tickets_said (h ++ e ∷ []) eui ≡ tickets_said h eui
tickets_stay h e eui quiet =
    ap (map (ticket_record (h ++ e ∷ []))) (tickets_of-stay h e eui quiet.asks quiet.ends)
    ∙ same_records h (h ++ e ∷ []) (tickets_of h eui)
    (All-weaker (IsOwnAsked h eui) (λ t. ticket_copies (h ++ e ∷ []) t ≡ ticket_copies h t) (λ t is.
    (let copies = copies_more h e t (is_other eui t (asking_in e.call e.reply) is.mine quiet.asks) is.asked in
    grind (arith, copies, copies_in e t, no_copy eui t (ticket_copy_in e.call e.reply) is.mine quiet.copies, append-nil))) (tickets_of h eui) (tickets_own h eui))
