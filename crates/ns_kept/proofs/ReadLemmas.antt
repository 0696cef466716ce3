-- How a kept history reads.
use Rattle.std.proofs.Common.{◌≡◌, ℕ, nat_le, Bool, true, false, not, ◌||◌, cond, List, [], ◌∷◌, ◌++◌, filter, Option, None, Some, option_to_list, refl, sym, ap, ◌∙◌, arith}
use Rattle.std.specs.List.{list_any, AllByRecursion}
use Rattle.std.proofs.lemmas.Bool.Decides.{nat_tests}
use Rattle.ns_types.specs.declared.identity.DevEui.{DevEui}
use Rattle.ns_types.specs.declared.identity.WindowName.{WindowName}
use Rattle.ns_types.specs.declared.ticket.Ticket.{Ticket}
use Rattle.ns_calls.specs.declared.call.Entry.{Entry}
use Rattle.ns_calls.specs.Entries.{Opening, acceptances, session_counters}
use Rattle.ns_calls.specs.History.{asks_for, ends_ticket, window_copies, open_tickets, copies_of_ticket, ticket_copies}
use Rattle.ns_calls.proofs.Says.{window_in, asking_in}
use Rattle.ns_kept.specs.Kept.{whole, closing_entry, counts, closing_of, with_closings, reading}
use Rattle.ns_kept.proofs.Within.{Adds}
use Rattle.ns_kept.proofs.Asked.{acceptances-adds, counters-adds, window_copies-adds, copies_of_ticket-adds, ticket_copies-cons}
use Rattle.ns_types.specs.Identity.{same_window}
use Rattle.ns_calls.proofs.LocalLemmas.{All-each}

-- ---- a history that was never trimmed

-- what is not below the mark reads as it is
closing_of-above : (mark : ℕ) (names : List WindowName) (number : ℕ) (o : Option Opening) → nat_le mark number ≡ true → closing_of mark names number o ≡ []
closing_of-above mark names number None above = refl
closing_of-above mark names number (Some o) above = ap (λ b. cond {A = List Entry} (b || list_any (same_window o.window) names) [] (closing_entry number o.window ∷ [])) above

pub with_closings-above : (mark : ℕ) (names : List WindowName) (ys : List Entry) → AllByRecursion (λ e. nat_le mark e.number ≡ true) ys → with_closings mark names ys ≡ ys
with_closings-above mark names [] above = refl
with_closings-above mark names (y ∷ ys) above =
    ap (λ (cs : List Entry). y ∷ cs ++ with_closings mark names ys) (closing_of-above mark names y.number (window_in y.call y.reply) above.0)
    ∙ ap (λ (es : List Entry). y ∷ es) (with_closings-above mark names ys above.1)

pub reading-whole : (h : List Entry) → reading (whole h) ≡ h
reading-whole h = with_closings-above 0 [] h (All-each (λ e. nat_le 0 e.number ≡ true) (λ e. grind (arith, nat_tests)) h)

-- ---- what holds with no closing, and stays with one

by_closing : (P : List Entry → Type 0) (mark : ℕ) (names : List WindowName) (number : ℕ) (o : Option Opening) → P [] → ((w : WindowName) → P (closing_entry number w ∷ [])) → P (closing_of mark names number o)
by_closing P mark names number None none one = none
by_closing P mark names number (Some o) none one = step (counts mark names number o.window)
  where
    step : (b : Bool) → P (cond b [] (closing_entry number o.window ∷ []))
    step true = none
    step false = one o.window

-- a list of which closings without acknowledgement say nothing
pub with_closings-adds : {Y : Type 0} (L : List Entry → List Y) → Adds L → ((number : ℕ) (w : WindowName) → L (closing_entry number w ∷ []) ≡ []) → (mark : ℕ) (names : List WindowName) (es : List Entry) → L (with_closings mark names es) ≡ L es
with_closings-adds L adds idle mark names [] = refl
with_closings-adds {Y} L adds idle mark names (e ∷ es) =
    let rest : List Entry = with_closings mark names es in
    adds.more e (closing_of mark names e.number (window_in e.call e.reply) ++ rest)
    ∙ (ap (λ ys. L (e ∷ []) ++ ys)
    (by_closing (λ cs. L (cs ++ rest) ≡ L rest) mark names e.number (window_in e.call e.reply) refl (λ w. adds.more (closing_entry e.number w) rest ∙ ap (λ ys. ys ++ L rest) (idle e.number w))
    ∙ with_closings-adds L adds idle mark names es)
    ∙ sym (adds.more e es))

pub acceptances-with_closings : (mark : ℕ) (names : List WindowName) (es : List Entry) (eui : DevEui) → acceptances (with_closings mark names es) eui ≡ acceptances es eui
acceptances-with_closings mark names es eui = with_closings-adds (λ h. acceptances h eui) (acceptances-adds eui) (λ number w. refl) mark names es

pub counters-with_closings : (mark : ℕ) (names : List WindowName) (es : List Entry) (eui : DevEui) (session : ℕ) → session_counters (with_closings mark names es) eui session ≡ session_counters es eui session
counters-with_closings mark names es eui session = with_closings-adds (λ h. session_counters h eui session) (counters-adds eui session) (λ number w. refl) mark names es

pub window_copies-with_closings : (mark : ℕ) (names : List WindowName) (es : List Entry) (w : WindowName) → window_copies (with_closings mark names es) w ≡ window_copies es w
window_copies-with_closings mark names es w = with_closings-adds (λ h. window_copies h w) (window_copies-adds w) (λ number v. refl) mark names es

pub copies_of_ticket-with_closings : (mark : ℕ) (names : List WindowName) (es : List Entry) (t : Ticket) → copies_of_ticket (with_closings mark names es) t ≡ copies_of_ticket es t
copies_of_ticket-with_closings mark names es t = with_closings-adds (λ h. copies_of_ticket h t) (copies_of_ticket-adds t) (λ number w. refl) mark names es

-- ---- tickets

pub any-with_closings : (test : Entry → Bool) → ((number : ℕ) (w : WindowName) → test (closing_entry number w) ≡ false) → (mark : ℕ) (names : List WindowName) (es : List Entry) → list_any test (with_closings mark names es) ≡ list_any test es
any-with_closings test idle mark names [] = refl
any-with_closings test idle mark names (e ∷ es) =
    let rest : List Entry = with_closings mark names es in
    ap (λ b. test e || b)
    (by_closing (λ cs. list_any test (cs ++ rest) ≡ list_any test rest) mark names e.number (window_in e.call e.reply) refl (λ w. ap (λ b. b || list_any test rest) (idle e.number w))
    ∙ any-with_closings test idle mark names es)

asked-same : (o : Option Ticket) (after rest : List Entry) → ((t : Ticket) → list_any (ends_ticket t) after ≡ list_any (ends_ticket t) rest) →
    filter (λ t. not (list_any (ends_ticket t) after)) (option_to_list o) ≡ filter (λ t. not (list_any (ends_ticket t) rest)) (option_to_list o)
asked-same None after rest same = refl
asked-same (Some t) after rest same = ap (λ b. cond {A = List Ticket} (not b) (t ∷ []) []) (same t)

pub open_tickets-with_closings : (mark : ℕ) (names : List WindowName) (es : List Entry) → open_tickets (with_closings mark names es) ≡ open_tickets es
open_tickets-with_closings mark names [] = refl
open_tickets-with_closings mark names (e ∷ es) =
    let rest : List Entry = with_closings mark names es in
    by_closing (λ cs. open_tickets (e ∷ cs ++ rest) ≡ open_tickets (e ∷ rest)) mark names e.number (window_in e.call e.reply) refl (λ w. refl)
    ∙ (ap (λ ts. ts ++ open_tickets rest) (asked-same (asking_in e.call e.reply) rest es (λ t. any-with_closings (ends_ticket t) (λ number w. refl) mark names es))
    ∙ ap (λ ts. filter (λ t. not (list_any (ends_ticket t) es)) (option_to_list (asking_in e.call e.reply)) ++ ts) (open_tickets-with_closings mark names es))

pub ticket_copies-with_closings : (mark : ℕ) (names : List WindowName) (es : List Entry) (t : Ticket) → ticket_copies (with_closings mark names es) t ≡ ticket_copies es t
ticket_copies-with_closings mark names [] t = refl
ticket_copies-with_closings mark names (e ∷ es) t =
    let rest : List Entry = with_closings mark names es in
    let any : list_any (asks_for t) rest ≡ list_any (asks_for t) es = any-with_closings (asks_for t) (λ number w. refl) mark names es in
    let later = ticket_copies-with_closings mark names es t in
    let copies = copies_of_ticket-with_closings mark names es t in
    let more = (copies_of_ticket-adds t).more in
    let same : ticket_copies (e ∷ rest) t ≡ ticket_copies (e ∷ es) t = cc (ticket_copies-cons e rest t, ticket_copies-cons e es t, more e rest, more e es) in
    by_closing (λ cs. ticket_copies (e ∷ cs ++ rest) t ≡ ticket_copies (e ∷ rest) t) mark names e.number (window_in e.call e.reply) refl (λ w. inserted e.number w rest)
    ∙ same
  where
    inserted : (number : ℕ) (w : WindowName) (rest : List Entry) → ticket_copies (e ∷ closing_entry number w ∷ rest) t ≡ ticket_copies (e ∷ rest) t
    inserted number w rest =
        let longer = ticket_copies-cons e (closing_entry number w ∷ rest) t in
        let closing = ticket_copies-cons (closing_entry number w) rest t in
        let shorter = ticket_copies-cons e rest t in
        grind (arith, longer, closing, shorter)
