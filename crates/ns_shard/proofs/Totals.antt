-- How many windows and tickets are open after one more entry.
use Rattle.std.proofs.Common.{◌≡◌, ℕ, ◌+◌, Bool, true, false, not, ◌||◌, cond, List, [], ◌∷◌, length, length-append, filter, count_by, zero-add, Option, None, Some, option_map, option_to_list, refl, sym, ap, subst, ◌∙◌, arith, inl, inr, ◌++◌}
use Rattle.std.specs.List.{AllByRecursion, list_any}
use Rattle.std.specs.Option.{option_map_or, is_some}
use Rattle.std.proofs.lemmas.Bool.{false≢true}
use Rattle.ns_types.specs.declared.identity.WindowName.{WindowName}
use Rattle.ns_types.specs.declared.ticket.Ticket.{Ticket}
use Rattle.ns_types.specs.Cases.{first_case, when}
use Rattle.ns_types.specs.Identity.{same_window}
use Rattle.ns_types.specs.Ticket.{dev_eui}
use Rattle.ns_roster.specs.Network.{Network}
use Rattle.ns_calls.specs.declared.call.Outcome.{Outcome}
use Rattle.ns_calls.specs.declared.call.Call.{Call}
use Rattle.ns_calls.specs.declared.call.Call.TheVariants as call
use Rattle.ns_calls.specs.declared.call.Reply.{Reply}
use Rattle.ns_calls.specs.declared.call.Reply.TheVariants as reply
use Rattle.ns_calls.specs.declared.call.Entry.{Entry}
use Rattle.ns_calls.specs.Entries.{Opening, Closing, closes, open_windows, Said, said, opened, closed, Nothing}
use Rattle.ns_calls.specs.History.{same_ticket, ends_ticket, open_window, open_tickets, is_ticket_open, next_session, asked, ended}
use Rattle.ns_calls.proofs.Says.{window_in, closing_in, asking_in, ending_in, is_ticket, uplink-says, join-says, answer-says, close-says}
use Rattle.ns_calls.specs.Reply.{reply_to, reply_to_close, reply_to_join_reply, ack_number, is_failed, address}
use Rattle.ns_calls.specs.Headline.{nonce_at_or_above}
use Rattle.ns_calls.specs.Legal.{IsLegal, entry_for, with_call}
use Rattle.ns_calls.proofs.LocalLemmas.{bool_tells, All-each}
use Rattle.ns_calls.proofs.Lists.{count-cons, count-found}
use Rattle.ns_calls.proofs.PushLemmas.{open_windows-push, open_tickets-push}
use Rattle.ns_calls.proofs.TicketLemmas.{same_ticket-eq}
use Rattle.ns_calls.proofs.WindowLemmas.{windows_open_once}
use Rattle.ns_sessions.proofs.Apart as sessions
use Rattle.ns_sessions.proofs.OpenTickets.{same_ticket-sym}
use Rattle.ns_shard.specs.State.{ends_open}
use Rattle.ns_shard.specs.Private.Room.{opens, open_total}
use Rattle.ns_calls.proofs.RoundLemmas.{count-none}
use Rattle.ns_windows.proofs.Names.{same_window-sym}
use Rattle.std.proofs.lemmas.List.Sums.{length-filter}
use Rattle.std.proofs.lemmas.List.Filters.{length-filter_both}
use Rattle.std.proofs.lemmas.List.Elements.{filter_agree}

-- ---- lists

-- what passes a test and what does not are all
nothing-counted : {X : Type 0} (xs : List X) → count_by (λ _. false) xs ≡ 0
nothing-counted {X} xs = count-none (λ _. false) xs (All-each (λ (x : X). false ≡ false) (λ x. refl) xs)

count-same : {X : Type 0} (p q : X → Bool) → ((x : X) → p x ≡ q x) → (xs : List X) → count_by p xs ≡ count_by q xs
count-same p q same xs = sym (length-filter p xs) ∙ (ap length (filter_agree p q same xs) ∙ length-filter q xs)

option-length : {X : Type 0} (o : Option X) → length (option_to_list o) ≡ cond (is_some o) 1 0
option-length None = refl
option-length (Some x) = refl

pub is_some-map : {X Y : Type 0} (f : X → Y) (o : Option X) → is_some (option_map f o) ≡ is_some o
is_some-map f None = refl
is_some-map f (Some x) = refl

pub is_some-none : {X : Type 0} (o : Option X) → is_some o ≡ false → o ≡ None
is_some-none None is = refl
is_some-none (Some x) is = absurd (false≢true (sym is))

is_some-when : {X : Type 0} (b : Bool) (x : X) → is_some (when b x) ≡ b
is_some-when true x = refl
is_some-when false x = refl

-- how long a list is from which what ends is taken out, and to which something may be added
length-after : {X : Type 0} (ends : X → Bool) (xs now : List X) (new : Option X) (n : ℕ) → now ≡ filter (λ x. not (ends x)) xs ++ option_to_list new → count_by ends xs ≡ n
    → length now + n ≡ length xs + cond (is_some new) 1 0
length-after ends xs now new n is ended =
    let passed = length-filter ends xs in
    let all = length-filter_both ends (λ x. not (ends x)) (λ x. refl) xs in
    let joined = ap length is ∙ length-append (filter (λ x. not (ends x)) xs) (option_to_list new) in
    let one = option-length new in
    omega (arith, passed, all, joined, one, ended)

-- ---- closings

closing-is : (h : List Entry) (w : WindowName) → closing_in (call.Close w) (reply_to_close h w) ≡ option_map (λ o. let c : Closing = record { window = w; ack = ack_number h o } in c) (open_window h w)
closing-is h w = step (open_window h w)
  where
    step : (found : Option Opening) → closing_in (call.Close w) (first_case (option_map (λ o. reply.Closed w (ack_number h o)) found ∷ []) reply.NoWindow) ≡ option_map (λ o. let c : Closing = record { window = w; ack = ack_number h o } in c) found
    step None = refl
    step (Some o) = refl

-- a closing ends the one open window of its name
named-once : (net : Network) (h : List Entry) (w : WindowName) (o : Opening) → IsLegal net h → open_window h w ≡ Some o → count_by (λ x. same_window w x.window) (open_windows h) ≡ 1
named-once net h w o legal is =
    let same = count-same (λ (x : Opening). same_window w x.window) (λ (x : Opening). same_window x.window w) (λ x. same_window-sym w x.window) (open_windows h) in
    let once = windows_open_once net h legal in
    let most = once.opens w in
    let split = once.closes w in
    let least = count-found (λ (x : Opening). same_window x.window w) (open_windows h) (ap (λ (x : Option Opening). is_some x) is) in
    omega (arith, same, most, split, least)

abbrev closed-by : Option Closing → Opening → Bool
closed-by c o = option_map_or (λ x. same_window x.window o.window) c false

windows-ended : (net : Network) (h : List Entry) (c : Call) → IsLegal net h → count_by (closed-by (closing_in c (reply_to net h c))) (open_windows h) ≡ cond (is_some (closing_in c (reply_to net h c))) 1 0
windows-ended net h (call.Uplink frame heard) legal =
    let none = nothing-counted (open_windows h) in uplink-says (λ s. count_by (closed-by (closed s)) (open_windows h) ≡ cond {A = ℕ} (is_some (closed s)) 1 0) frame heard (λ w. none) (λ w. none) (λ w. none) none (reply_to net h (call.Uplink frame heard))
windows-ended net h (call.Join t heard) legal = let none = nothing-counted (open_windows h) in join-says (λ s. count_by (closed-by (closed s)) (open_windows h) ≡ cond {A = ℕ} (is_some (closed s)) 1 0) t heard none none none (reply_to net h (call.Join t heard))
windows-ended net h (call.JoinReply t o) legal = let none = nothing-counted (open_windows h) in answer-says (λ s. count_by (closed-by (closed s)) (open_windows h) ≡ cond {A = ℕ} (is_some (closed s)) 1 0) t o (λ n. none) none none (reply_to net h (call.JoinReply t o))
windows-ended net h (call.Close w) legal =
    ap (λ (c : Option Closing). count_by (closed-by c) (open_windows h)) (closing-is h w)
    ∙ (step (open_window h w) refl ∙ sym (ap (λ (c : Option Closing). cond {A = ℕ} (is_some c) 1 0) (closing-is h w)))
  where
    closing : Option Opening → Option Closing
    closing found = option_map (λ o. let c : Closing = record { window = w; ack = ack_number h o } in c) found

    step : (found : Option Opening) → open_window h w ≡ found → count_by (closed-by (closing found)) (open_windows h) ≡ cond (is_some (closing found)) 1 0
    step None is = nothing-counted (open_windows h)
    step (Some o) is = named-once net h w o legal is

windows-total : (net : Network) (h : List Entry) (number : ℕ) (c : Call) → IsLegal net h →
    length (open_windows (with_call net h number c)) + cond (is_some (closing_in c (reply_to net h c))) 1 0 ≡ length (open_windows h) + cond (is_some (window_in c (reply_to net h c))) 1 0
windows-total net h number c legal =
    let e = entry_for net h number c in
    length-after (λ (o : Opening). closes o.window e) (open_windows h) (open_windows (h ++ e ∷ [])) (window_in c (reply_to net h c)) _ (open_windows-push h e) (windows-ended net h c legal)

-- ---- answers

ending-is : (net : Network) (h : List Entry) (t : Ticket) (o : Outcome) → ending_in (call.JoinReply t o) (reply_to_join_reply net h t o) ≡ when (is_ticket_open h t) t
ending-is net h t o = step (is_ticket_open h t) (is_failed o) (nonce_at_or_above net h t)
  where
    step : (is_open failed : Bool) (stale : Option ℕ) → ending_in (call.JoinReply t o) (first_case (
        when (not is_open) reply.NoTicket
        ∷ when failed reply.JoinRefused
        ∷ option_map (λ g. reply.JoinStale (record { 0 = g })) stale
        ∷ []) (reply.Accepted (dev_eui t) (next_session h (dev_eui t)) (address net (dev_eui t)))) ≡ when is_open t
    step false failed stale = refl
    step true true stale = refl
    step true false (Some g) = refl
    step true false None = refl

-- an answer ends the one open ticket of its bytes, if there is one
asked-once : (t : Ticket) (ts : List Ticket) → sessions.AreApart ts → count_by (λ u. same_ticket u t) ts ≡ cond (list_any (same_ticket t) ts) 1 0
asked-once t [] apart = refl
asked-once t (u ∷ ts) apart =
    let counted = λ (b : Bool). cond {A = ℕ} b 1 0 + count_by (λ (v : Ticket). same_ticket v t) ts in
    elim (bool_tells (same_ticket t u)) [
      | inl here ↦
          count-cons (λ (v : Ticket). same_ticket v t) u ts
          ∙ (ap counted (same_ticket-sym t u true here)
          ∙ (ap (λ n. 1 + n) (count-none (λ (v : Ticket). same_ticket v t) ts (others ts (subst (λ (x : Ticket). AllByRecursion (λ v. same_ticket x v ≡ false) ts) (sym (same_ticket-eq t u here)) apart.0)))
          ∙ sym (ap (λ b. cond {A = ℕ} (b || list_any (same_ticket t) ts) 1 0) here)))
      | inr other ↦
          count-cons (λ (v : Ticket). same_ticket v t) u ts
          ∙ (ap counted (same_ticket-sym t u false other) ∙ (zero-add (count_by (λ (v : Ticket). same_ticket v t) ts) ∙ (asked-once t ts apart.1 ∙ sym (ap (λ b. cond {A = ℕ} (b || list_any (same_ticket t) ts) 1 0) other))))
    ]
  where
    others : (us : List Ticket) → AllByRecursion (λ v. same_ticket t v ≡ false) us → AllByRecursion (λ v. same_ticket v t ≡ false) us
    others [] all = tt
    others (v ∷ us) all = (same_ticket-sym t v false all.0, others us all.1)

tickets-ended : (net : Network) (h : List Entry) (c : Call) → IsLegal net h → count_by (λ t. is_ticket t (ending_in c (reply_to net h c))) (open_tickets h) ≡ cond (is_some (ending_in c (reply_to net h c))) 1 0
tickets-ended net h (call.Uplink frame heard) legal =
    let none = nothing-counted (open_tickets h) in uplink-says (λ s. count_by (λ u. is_ticket u (ended s)) (open_tickets h) ≡ cond {A = ℕ} (is_some (ended s)) 1 0) frame heard (λ w. none) (λ w. none) (λ w. none) none (reply_to net h (call.Uplink frame heard))
tickets-ended net h (call.Join t heard) legal = let none = nothing-counted (open_tickets h) in join-says (λ s. count_by (λ u. is_ticket u (ended s)) (open_tickets h) ≡ cond {A = ℕ} (is_some (ended s)) 1 0) t heard none none none (reply_to net h (call.Join t heard))
tickets-ended net h (call.Close w) legal = let none = nothing-counted (open_tickets h) in close-says (λ s. count_by (λ u. is_ticket u (ended s)) (open_tickets h) ≡ cond {A = ℕ} (is_some (ended s)) 1 0) w (λ ack. none) none (reply_to net h (call.Close w))
tickets-ended net h (call.JoinReply t o) legal =
    ap (λ (x : Option Ticket). count_by (λ u. is_ticket u x) (open_tickets h)) (ending-is net h t o)
    ∙ (step (is_ticket_open h t) refl ∙ sym (ap (λ (x : Option Ticket). cond {A = ℕ} (is_some x) 1 0) (ending-is net h t o)))
  where
    step : (b : Bool) → is_ticket_open h t ≡ b → count_by (λ u. is_ticket u (when b t)) (open_tickets h) ≡ cond (is_some (when b t)) 1 0
    step false is = nothing-counted (open_tickets h)
    step true is = asked-once t (open_tickets h) (sessions.tickets_apart net h legal) ∙ ap (λ b. cond {A = ℕ} b 1 0) is

tickets-total : (net : Network) (h : List Entry) (number : ℕ) (c : Call) → IsLegal net h →
    length (open_tickets (with_call net h number c)) + cond (is_some (ending_in c (reply_to net h c))) 1 0 ≡ length (open_tickets h) + cond (is_some (asking_in c (reply_to net h c))) 1 0
tickets-total net h number c legal =
    let e = entry_for net h number c in
    length-after (λ (t : Ticket). ends_ticket t e) (open_tickets h) (open_tickets (h ++ e ∷ [])) (asking_in c (reply_to net h c)) _ (open_tickets-push h e) (tickets-ended net h c legal)

-- ---- both

-- whether an entry closes a window, or ends a ticket
abbrev pub ends : Call → Reply → Bool
ends c r = is_some (closing_in c r) || is_some (ending_in c r)

-- a closing or an answer ends something exactly where its window or ticket is open
pub ends-found : (net : Network) (h : List Entry) (c : Call) → ends c (reply_to net h c) ≡ ends_open h c
ends-found net h (call.Uplink frame heard) = uplink-says (λ s. (is_some (closed s) || is_some (ended s)) ≡ false) frame heard (λ w. refl) (λ w. refl) (λ w. refl) refl (reply_to net h (call.Uplink frame heard))
ends-found net h (call.Join t heard) = join-says (λ s. (is_some (closed s) || is_some (ended s)) ≡ false) t heard refl refl refl (reply_to net h (call.Join t heard))
ends-found net h (call.JoinReply t o) =
    answer-says (λ s. (is_some (closed s) || is_some (ended s)) ≡ is_some (ended s)) t o (λ n. refl) refl refl (reply_to net h (call.JoinReply t o))
    ∙ (ap (λ (x : Option Ticket). is_some x) (ending-is net h t o) ∙ is_some-when (is_ticket_open h t) t)
ends-found net h (call.Close w) =
    close-says (λ s. (is_some (closed s) || is_some (ended s)) ≡ is_some (closed s)) w (λ ack. refl) refl (reply_to_close h w)
    ∙ (ap (λ (x : Option Closing). is_some x) (closing-is h w) ∙ is_some-map (λ (o : Opening). let c : Closing = record { window = w; ack = ack_number h o } in c) (open_window h w))

-- no entry opens a window and a ticket, nor ends both
opens-one : (s : Said) → cond {A = ℕ} (is_some (opened s) || is_some (asked s)) 1 0 ≡ cond (is_some (opened s)) 1 0 + cond (is_some (asked s)) 1 0
opens-one Nothing = refl
opens-one _ = refl

ends-one : (s : Said) → cond {A = ℕ} (is_some (closed s) || is_some (ended s)) 1 0 ≡ cond (is_some (closed s)) 1 0 + cond (is_some (ended s)) 1 0
ends-one Nothing = refl
ends-one _ = refl

-- how many are open after a call: one more where it opens something, and one less where it ends something
pub total-after : (net : Network) (h : List Entry) (number : ℕ) (c : Call) → IsLegal net h →
    open_total (with_call net h number c) + cond (ends_open h c) 1 0 ≡ open_total h + cond (opens c (reply_to net h c)) 1 0
total-after net h number c legal =
    let windows = windows-total net h number c legal in
    let tickets = tickets-total net h number c legal in
    let begun = opens-one (said c (reply_to net h c)) in
    let over = ends-one (said c (reply_to net h c)) in
    let found = ap (λ b. cond {A = ℕ} b 1 0) (ends-found net h c) in
    omega (arith, windows, tickets, begun, over, found)

-- an answer and a closing open nothing
pub answer-opens : (t : Ticket) (o : Outcome) (r : Reply) → opens (call.JoinReply t o) r ≡ false
answer-opens t o r = answer-says (λ s. (is_some (opened s) || is_some (asked s)) ≡ false) t o (λ n. refl) refl refl r

pub close-opens : (w : WindowName) (r : Reply) → opens (call.Close w) r ≡ false
close-opens w r = close-says (λ s. (is_some (opened s) || is_some (asked s)) ≡ false) w (λ ack. refl) refl r
