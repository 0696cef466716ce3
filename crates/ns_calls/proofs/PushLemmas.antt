-- What one more entry adds to what a history tells.
use Rattle.std.proofs.Common.{◌≡◌, Bool, true, false, not, cond, List, [], ◌∷◌, ◌++◌, filter, filter_map, map, option_to_list, refl, sym, ap, ◌∙◌}
use Rattle.std.specs.List.{list_any}
use Rattle.std.proofs.lemmas.List.{map-append}
use Rattle.ns_types.specs.declared.identity.DevEui.{DevEui}
use Rattle.ns_types.specs.declared.identity.WindowName.{WindowName}
use Rattle.ns_types.specs.declared.heard.Heard.{Heard}
use Rattle.ns_types.specs.declared.ticket.Ticket.{Ticket}
use Rattle.ns_types.specs.Identity.{same_window}
use Rattle.ns_calls.specs.declared.call.Entry.{Entry}
use Rattle.ns_calls.specs.Queries.{from_last}
use Rattle.ns_calls.specs.Entries.{Acceptance, Opening, Closing, acceptances, openings, same_device, closes, open_windows}
use Rattle.ns_calls.specs.History.{closings, same_ticket, ends_ticket, asks_for, window_copies, open_tickets, ticket_copies, copies_of_ticket}
use Rattle.ns_calls.proofs.Says.{acceptance_in, opening_in, window_in, closing_in, asking_in, window_copy_in, ticket_copy_in}
use Rattle.ns_calls.proofs.QueryLemmas.{still_open-push, from_last-push}
use Rattle.ns_calls.proofs.Lists.{said, said-push}

pub acceptances-push : (h : List Entry) (e : Entry) (eui : DevEui) → acceptances (h ++ e ∷ []) eui ≡ acceptances h eui ++ filter (λ a. same_device a.eui eui) (option_to_list (acceptance_in e.call e.reply))
acceptances-push h e eui = said-push (λ (x : Entry). acceptance_in x.call x.reply) (λ (a : Acceptance). same_device a.eui eui) h e

pub openings-push : (h : List Entry) (e : Entry) (eui : DevEui) → openings (h ++ e ∷ []) eui ≡ openings h eui ++ filter (λ o. same_device o.window.eui eui) (option_to_list (opening_in e.call e.reply))
openings-push h e eui = said-push (λ (x : Entry). opening_in x.call x.reply) (λ (o : Opening). same_device o.window.eui eui) h e

pub closings-push : (h : List Entry) (e : Entry) (eui : DevEui) → closings (h ++ e ∷ []) eui ≡ closings h eui ++ filter (λ c. same_device c.window.eui eui) (option_to_list (closing_in e.call e.reply))
closings-push h e eui = said-push (λ (x : Entry). closing_in x.call x.reply) (λ (c : Closing). same_device c.window.eui eui) h e

pub open_windows-push : (h : List Entry) (e : Entry) → open_windows (h ++ e ∷ []) ≡ filter (λ o. not (closes o.window e)) (open_windows h) ++ option_to_list (window_in e.call e.reply)
open_windows-push h e = still_open-push (λ (x : Entry). window_in x.call x.reply) (λ (o : Opening) x. closes o.window x) h e

pub window_copies-push : (h : List Entry) (e : Entry) (w : WindowName) →
    window_copies (h ++ e ∷ []) w ≡ window_copies h w ++ map (λ c. c.1) (filter (λ c. same_window c.0 w) (option_to_list (window_copy_in e.call e.reply)))
window_copies-push h e w =
    let says = λ (x : Entry). window_copy_in x.call x.reply in
    let asked = λ (c : WindowName × Heard). same_window c.0 w in
    ap (map (λ (c : WindowName × Heard). c.1)) (said-push says asked h e) ∙ map-append (λ (c : WindowName × Heard). c.1) (filter asked (filter_map says h)) (said says asked e)

pub open_tickets-push : (h : List Entry) (e : Entry) → open_tickets (h ++ e ∷ []) ≡ filter (λ t. not (ends_ticket t e)) (open_tickets h) ++ option_to_list (asking_in e.call e.reply)
open_tickets-push h e = still_open-push (λ (x : Entry). asking_in x.call x.reply) ends_ticket h e

copies-push : (h : List Entry) (e : Entry) (t : Ticket) → copies_of_ticket (h ++ e ∷ []) t ≡ copies_of_ticket h t ++ copies_of_ticket (e ∷ []) t
copies-push h e t =
    let says = λ (x : Entry). ticket_copy_in x.call x.reply in
    let asked = λ (c : Ticket × Heard). same_ticket t c.0 in
    ap (map (λ (c : Ticket × Heard). c.1)) (said-push says asked h e)
    ∙ (map-append (λ (c : Ticket × Heard). c.1) (filter asked (filter_map says h)) (said says asked e)
    ∙ ap (λ hs. copies_of_ticket h t ++ map (λ (c : Ticket × Heard). c.1) hs) (sym (said-push says asked [] e)))

pub ticket_copies-push : (h : List Entry) (e : Entry) (t : Ticket) → ticket_copies (h ++ e ∷ []) t
    ≡ cond (asks_for t e) (copies_of_ticket (e ∷ []) t) (cond (list_any (asks_for t) h) (ticket_copies h t ++ copies_of_ticket (e ∷ []) t) [])
ticket_copies-push h e t =
    ap (λ es. copies_of_ticket es t) (from_last-push (asks_for t) h e) ∙ step (asks_for t e) (list_any (asks_for t) h)
  where
    step : (now before : Bool) → copies_of_ticket (cond now (e ∷ []) (cond before (from_last (asks_for t) h ++ e ∷ []) [])) t
        ≡ cond now (copies_of_ticket (e ∷ []) t) (cond before (ticket_copies h t ++ copies_of_ticket (e ∷ []) t) [])
    step true before = refl
    step false true = copies-push (from_last (asks_for t) h) e t
    step false false = refl
