-- What a Join-Request and the answer to a join make of a device's open tickets.
use Rattle.std.proofs.Common.{◌≡◌, ℕ, Bool, true, false, not, cond, List, [], ◌∷◌, ◌++◌, filter, map, None, Some, refl, sym, ap, ◌∙◌, inl, inr, arith}
use Rattle.std.specs.List.{AllByRecursion, list_any}
use Rattle.std.proofs.lemmas.List.{append-nil, length-append, map-append}
use Rattle.std.proofs.lemmas.List.Elements.{filter-append}
use Rattle.ns_types.specs.declared.identity.DevEui.{DevEui}
use Rattle.ns_types.specs.declared.heard.Heard.{Heard}
use Rattle.ns_types.specs.declared.ticket.Ticket.{Ticket}
use Rattle.ns_types.specs.Ticket.{dev_eui}
use Rattle.ns_types.proofs.HeardLemmas.{best-one_more}
use Rattle.ns_roster.specs.Network.{Network}
use Rattle.ns_calls.specs.declared.call.Call.TheVariants as call
use Rattle.ns_calls.specs.declared.call.Reply.TheVariants as reply
use Rattle.ns_calls.specs.declared.call.Entry.{Entry}
use Rattle.ns_calls.specs.Entries.{same_device}
use Rattle.ns_calls.specs.History.{same_ticket, open_tickets, is_ticket_open, ticket_copies}
use Rattle.ns_calls.proofs.Says.{is_ticket, asking_in, ending_in, ticket_copy_in}
use Rattle.ns_calls.specs.Legal.{IsLegal, entry_of}
use Rattle.ns_calls.proofs.LocalLemmas.{bool_tells}
use Rattle.ns_calls.proofs.Lists.{All-weaker, All-filter, filter-all}
use Rattle.ns_calls.proofs.TicketLemmas.{same_ticket-eq}
use Rattle.ns_calls.proofs.PushLemmas.{open_tickets-push, ticket_copies-push}
use Rattle.ns_sessions.specs.declared.ticket.OpenTicket.{OpenTicket}
use Rattle.ns_sessions.specs.Copies.{copies_record, with_one_more}
use Rattle.ns_sessions.specs.Record.{ticket_record, tickets_of, one_copy, ticket_among, tickets_after_copy, without}
use Rattle.ns_sessions.proofs.Records.{tickets_said}
use Rattle.ns_sessions.proofs.OpenTickets.{same_ticket-refl, same_ticket-sym, same_device-refl, copies_said, copies_in, copies_more, tickets_of-stay, same_records, IsOwnAsked, tickets_own}
use Rattle.ns_sessions.proofs.Apart.{AreApart, none_equal, apart-filter, tickets_apart}

pub All-both : (P Q : Ticket → Type 0) (ts : List Ticket) → AllByRecursion P ts → AllByRecursion Q ts → AllByRecursion (λ t. P t × Q t) ts
All-both P Q [] p q = tt
All-both P Q (t ∷ ts) p q = ((p.0, q.0), All-both P Q ts p.1 q.1)

-- what is kept of copies and one more
copies_record-push : (copies : List Heard) (heard : Heard) → copies_record (copies ++ heard ∷ []) ≡ with_one_more heard (copies_record copies)
copies_record-push copies heard = λ i. record { count = length-append copies (heard ∷ []) i; best = best-one_more copies heard i }

-- ---- a ticket that is asked for

pub tickets_asked : (h : List Entry) (number : ℕ) (t : Ticket) (heard : Heard) → is_ticket_open h t ≡ false →
    tickets_said (h ++ entry_of number (call.Join t heard) (reply.Ask t) ∷ []) (dev_eui t) ≡ tickets_said h (dev_eui t) ++ one_copy t heard ∷ []
tickets_asked h number t heard closed =
    let e : Entry = entry_of number (call.Join t heard) (reply.Ask t) in
    let eui : DevEui = dev_eui t in
    let own : Ticket → Bool = λ u. same_device (dev_eui u) eui in
    let now : List Entry = h ++ e ∷ [] in
    let others : AllByRecursion (λ u. IsOwnAsked h eui u × (same_ticket u t ≡ false)) (tickets_of h eui) =
    All-both (IsOwnAsked h eui) (λ u. same_ticket u t ≡ false) (tickets_of h eui) (tickets_own h eui) (All-filter (λ u. same_ticket u t ≡ false) own (open_tickets h) (none_equal t (open_tickets h) closed)) in
    let there : tickets_of now eui ≡ tickets_of h eui ++ t ∷ [] = rw (open_tickets-push h e, filter-all, filter-append own (open_tickets h) (t ∷ []), same_device-refl eui) in
    let copies : ticket_copies now t ≡ heard ∷ [] = cc (ticket_copies-push h e t, copies_in e t, same_ticket-refl t) in
    let before : map (ticket_record now) (tickets_of h eui) ≡ tickets_said h eui =
    same_records h now (tickets_of h eui) (All-weaker (λ u. IsOwnAsked h eui u × (same_ticket u t ≡ false)) (λ u. ticket_copies now u ≡ ticket_copies h u)
    (λ u is. grind (arith, copies_more h e u is.1 is.0.asked, copies_in e u, append-nil)) (tickets_of h eui) others) in
    ap (map (ticket_record now)) there ∙ (map-append (ticket_record now) (tickets_of h eui) (t ∷ []) ∙ cc)

-- ---- one more copy

-- tickets that differ from t keep their copies
others_keep : (h now : List Entry) (t : Ticket) (heard : Heard) (ts : List Ticket) → AllByRecursion (λ u. same_ticket u t ≡ false) ts →
    AllByRecursion (λ u. ticket_copies now u ≡ ticket_copies h u ++ copies_said u (Some (t, heard))) ts → AllByRecursion (λ u. ticket_copies now u ≡ ticket_copies h u) ts
others_keep h now t heard [] others more = tt
others_keep h now t heard (u ∷ ts) others more = (grind (arith, more.0, append-nil), others_keep h now t heard ts others.1 more.1)

-- what differs from u differs from an equal ticket
apart_from : (t u : Ticket) (ts : List Ticket) → same_ticket t u ≡ true → AllByRecursion (λ v. same_ticket u v ≡ false) ts → AllByRecursion (λ v. same_ticket v t ≡ false) ts
apart_from t u ts same apart =
    All-weaker (λ v. same_ticket u v ≡ false) (λ v. same_ticket v t ≡ false)
    (λ v differs. same_ticket-sym t v false (ap (λ (w : Ticket). same_ticket w v) (same_ticket-eq t u same) ∙ differs)) ts apart

copied_records : (h now : List Entry) (t : Ticket) (heard : Heard) (ts : List Ticket) → AreApart ts → AllByRecursion (λ u. ticket_copies now u ≡ ticket_copies h u ++ copies_said u (Some (t, heard))) ts →
    map (ticket_record now) ts ≡ tickets_after_copy t heard (map (ticket_record h) ts)
copied_records h now t heard [] apart more = refl
copied_records h now t heard (u ∷ ts) apart more =
    let others = λ (same : same_ticket t u ≡ true). same_records h now ts (others_keep h now t heard ts (apart_from t u ts same apart.0) more.1) in
    grind (arith, more.0, others, same_ticket-sym t u true, same_ticket-sym t u false, append-nil, copies_record-push, copied_records h now t heard ts apart.1 more.1)

pub tickets_copied : (net : Network) (h : List Entry) → IsLegal net h → (number place : ℕ) (t : Ticket) (heard : Heard) →
    tickets_said (h ++ entry_of number (call.Join t heard) (reply.JoinCopied place) ∷ []) (dev_eui t) ≡ tickets_after_copy t heard (tickets_said h (dev_eui t))
tickets_copied net h legal number place t heard =
    let e : Entry = entry_of number (call.Join t heard) (reply.JoinCopied place) in
    let eui : DevEui = dev_eui t in
    let now : List Entry = h ++ e ∷ [] in
    ap (map (ticket_record now)) (tickets_of-stay h e eui tt tt)
    ∙ copied_records h now t heard (tickets_of h eui) (apart-filter (λ u. same_device (dev_eui u) eui) (open_tickets h) (tickets_apart net h legal))
    (All-weaker (IsOwnAsked h eui) (λ u. ticket_copies now u ≡ ticket_copies h u ++ copies_said u (Some (t, heard)))
    (λ u is. copies_more h e u refl is.asked ∙ ap (λ ys. ticket_copies h u ++ ys) (copies_in e u)) (tickets_of h eui) (tickets_own h eui))

-- ---- a join that ends

filter-swap : (p q : Ticket → Bool) (ts : List Ticket) → filter p (filter q ts) ≡ filter q (filter p ts)
filter-swap p q [] = refl
filter-swap p q (t ∷ ts) = grind (arith, filter-swap p q ts)

keep_all : (t : Ticket) (ts : List Ticket) → AllByRecursion (λ u. same_ticket u t ≡ false) ts → filter (λ u. not (same_ticket u t)) ts ≡ ts
keep_all t [] others = refl
keep_all t (u ∷ ts) others = grind (arith, keep_all t ts others.1)

without_records : (h : List Entry) (t : Ticket) (ts : List Ticket) → AreApart ts → map (ticket_record h) (filter (λ u. not (same_ticket u t)) ts) ≡ without t (map (ticket_record h) ts)
without_records h t [] apart = refl
without_records h t (u ∷ ts) apart = grind (arith, same_ticket-sym t u true, same_ticket-sym t u false, without_records h t ts apart.1, keep_all t ts, apart_from t u ts)

pub tickets_ended : (net : Network) (h : List Entry) → IsLegal net h → (e : Entry) (t : Ticket) → asking_in e.call e.reply ≡ None → ending_in e.call e.reply ≡ Some t → ticket_copy_in e.call e.reply ≡ None →
    tickets_said (h ++ e ∷ []) (dev_eui t) ≡ without t (tickets_said h (dev_eui t))
tickets_ended net h legal e t asks ends copies =
    let eui : DevEui = dev_eui t in
    let own : Ticket → Bool = λ u. same_device (dev_eui u) eui in
    let keep : Ticket → Bool = λ u. not (same_ticket u t) in
    let now : List Entry = h ++ e ∷ [] in
    let there : tickets_of now eui ≡ filter keep (tickets_of h eui) = rw (open_tickets-push h e, asks, ends, append-nil) (filter-swap own keep (open_tickets h)) in
    let same : AllByRecursion (λ u. ticket_copies now u ≡ ticket_copies h u) (tickets_of h eui) =
    All-weaker (IsOwnAsked h eui) (λ u. ticket_copies now u ≡ ticket_copies h u)
    (λ u is. grind (arith, copies_more h e u (ap (is_ticket u) asks) is.asked, copies_in e u, append-nil)) (tickets_of h eui) (tickets_own h eui) in
    ap (map (ticket_record now)) there
    ∙ (same_records h now (filter keep (tickets_of h eui)) (All-filter (λ u. ticket_copies now u ≡ ticket_copies h u) keep (tickets_of h eui) same)
    ∙ without_records h t (tickets_of h eui) (apart-filter own (open_tickets h) (tickets_apart net h legal)))

-- ---- the open ticket of equal bytes

pub among_said : (h : List Entry) (t : Ticket) (ts : List Ticket) →
    ticket_among t (map (ticket_record h) (filter (λ u. same_device (dev_eui u) (dev_eui t)) ts)) ≡ cond (list_any (same_ticket t) ts) (Some (ticket_record h t)) None
among_said h t [] = refl
among_said h t (u ∷ ts) =
    elim (bool_tells (same_ticket t u)) [
      | inl same ↦
          (let is : t ≡ u = same_ticket-eq t u same in
          let mine : same_device (dev_eui u) (dev_eui t) ≡ true = rw is (same_device-refl (dev_eui u)) in
          rw (mine, same) (ap (λ (v : Ticket). Some (ticket_record h v)) (sym is)))
      | inr differs ↦ grind (arith, among_said h t ts)
    ]

pub without_absent : (t : Ticket) (os : List OpenTicket) → ticket_among t os ≡ None → without t os ≡ os
without_absent t [] none = refl
without_absent t (o ∷ os) none = grind (arith, without_absent t os)
