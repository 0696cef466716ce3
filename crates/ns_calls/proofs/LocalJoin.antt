-- The reply to a join, and to its answer, rests on the entries of the device's shard alone.
use Rattle.std.proofs.Common.{◌≡◌, ℕ, ◌+◌, ◌%◌, Bool, true, false, cond, eqb, List, [], ◌∷◌, filter, map, length, option_to_list, count_by, unwrap_or, refl, sym, ap, ◌∙◌}
use Rattle.std.proofs.lemmas.Bool.{eq-eqb, ne_eqb, false≢true, false_from_ne_true}
use Rattle.std.specs.List.{list_any}
use Rattle.ns_types.specs.declared.identity.DevEui.{DevEui}
use Rattle.ns_types.specs.declared.ticket.Ticket.{Ticket}
use Rattle.ns_types.specs.declared.heard.Heard.{Heard}
use Rattle.ns_types.specs.Identity.{shard_of}
use Rattle.ns_types.specs.Ticket.{dev_eui, join_eui, nonce}
use Rattle.ns_roster.specs.Network.{Network, is_known}
use Rattle.ns_calls.specs.declared.call.Call.{Call}
use Rattle.ns_calls.specs.declared.call.Outcome.{Outcome}
use Rattle.ns_calls.specs.declared.call.Reply.{Reply}
use Rattle.ns_calls.specs.declared.call.Entry.{Entry}
use Rattle.ns_types.specs.Cases.{when}
use Rattle.ns_calls.specs.Queries.{greater, maximum, from_last}
use Rattle.ns_calls.specs.Entries.{Acceptance, same_device, acceptances}
use Rattle.ns_calls.specs.History.{same_ticket, asks_for, ends_ticket, last_nonce, greatest_nonce, next_session, open_tickets, is_ticket_open, ticket_count, copies_of_ticket, ticket_copies}
use Rattle.ns_calls.proofs.Says.{acceptance_in, asking_in, ending_in, ticket_copy_in, is_ticket, accepted-by, asked-by, ended-by, join_copied-by}
use Rattle.ns_calls.specs.Reply.{join_rule, answer_rule, reply_to_join, reply_to_join_reply, address, is_failed}
use Rattle.ns_calls.specs.Shards.{shard_of_call, of_shard}
use Rattle.ns_calls.proofs.TicketLemmas.{same_ticket-eq}
use Rattle.ns_calls.proofs.LocalLemmas.{filter_map-own, list_any-own, count_by-own, still_open-own, from_last-own}

-- whether an entry, and whether a ticket, is of shard k
abbrev pub here : ℕ → Entry → Bool
here k e = eqb (shard_of_call e.call) k

abbrev own : ℕ → Ticket → Bool
own k t = eqb (shard_of (dev_eui t)) k

pub other_device : (k d e : ℕ) → e % 16 ≡ k → eqb (d % 16) k ≡ false → eqb d e ≡ false
other_device k d e h n = ne_eqb d e (λ same. false≢true (sym n ∙ eq-eqb (d % 16) k (ap (λ m. m % 16) same ∙ h)))

other_ticket : (k : ℕ) (t u : Ticket) → own k t ≡ true → own k u ≡ false → same_ticket t u ≡ false
other_ticket k t u mine other =
    false_from_ne_true (same_ticket t u) (λ same. false≢true (sym other ∙ (ap (own k) (sym (same_ticket-eq t u same)) ∙ mine)))

pub none_single : {X : Type 0} (q : X → Bool) (x : X) → q x ≡ false → filter q (x ∷ []) ≡ []
none_single {X} q x h = ap (λ b. cond {A = List X} b (x ∷ []) []) h

-- ---- what entries of other shards don't say

acceptance-other : (k : ℕ) (eui : DevEui) → shard_of eui ≡ k → (c : Call) (r : Reply) → eqb (shard_of_call c) k ≡ false → filter (λ a. same_device a.eui eui) (option_to_list (acceptance_in c r)) ≡ []
acceptance-other k eui h =
    accepted-by (λ d p. eqb (shard_of_call d) k ≡ false → filter (λ (a : Acceptance). same_device a.eui eui) (option_to_list p) ≡ []) (λ d n. refl)
    (λ t join session n. none_single (λ (b : Acceptance). same_device b.eui eui) (record { eui = dev_eui t; session = session; ticket = t; join_ans = join }) (other_device k (dev_eui t).0 eui.0 h n))

asking-other : (k : ℕ) (c : Call) (r : Reply) → eqb (shard_of_call c) k ≡ false → filter (own k) (option_to_list (asking_in c r)) ≡ []
asking-other k = asked-by (λ d p. eqb (shard_of_call d) k ≡ false → filter (own k) (option_to_list p) ≡ []) (λ d n. refl) (λ t heard n. ap (λ b. cond b (t ∷ []) []) n)

asks-other : (k : ℕ) (t : Ticket) → own k t ≡ true → (c : Call) (r : Reply) → eqb (shard_of_call c) k ≡ false → is_ticket t (asking_in c r) ≡ false
asks-other k t mine = asked-by (λ d p. eqb (shard_of_call d) k ≡ false → is_ticket t p ≡ false) (λ d n. refl) (λ u heard n. other_ticket k t u mine n)

ends-other : (k : ℕ) (t : Ticket) → own k t ≡ true → (c : Call) (r : Reply) → eqb (shard_of_call c) k ≡ false → is_ticket t (ending_in c r) ≡ false
ends-other k t mine = ended-by (λ d p. eqb (shard_of_call d) k ≡ false → is_ticket t p ≡ false) (λ d n. refl) (λ u o n. other_ticket k t u mine n)

copy-other : (k : ℕ) (t : Ticket) → own k t ≡ true → (c : Call) (r : Reply) → eqb (shard_of_call c) k ≡ false → filter (λ x. same_ticket t x.0) (option_to_list (ticket_copy_in c r)) ≡ []
copy-other k t mine =
    join_copied-by (λ d p. eqb (shard_of_call d) k ≡ false → filter (λ (x : Ticket × Heard). same_ticket t x.0) (option_to_list p) ≡ []) (λ d n. refl)
    (λ u heard n. none_single (λ (x : Ticket × Heard). same_ticket t x.0) (u, heard) (other_ticket k t u mine n))

-- ---- what a shard's entries say of its devices and tickets

pub acceptances-own : (k : ℕ) (eui : DevEui) → shard_of eui ≡ k → (h : List Entry) → acceptances (of_shard k h) eui ≡ acceptances h eui
acceptances-own k eui mine h = filter_map-own (here k) (λ e. acceptance_in e.call e.reply) (λ a. same_device a.eui eui) (λ e n. acceptance-other k eui mine e.call e.reply n) h

pub open_tickets-own : (k : ℕ) (h : List Entry) → filter (own k) (open_tickets (of_shard k h)) ≡ filter (own k) (open_tickets h)
open_tickets-own k h = still_open-own (λ e. asking_in e.call e.reply) ends_ticket (here k) (own k) (λ e n. asking-other k e.call e.reply n) (λ t e mine n. ends-other k t mine e.call e.reply n) h

pub is_ticket_open-own : (k : ℕ) (t : Ticket) → own k t ≡ true → (h : List Entry) → is_ticket_open (of_shard k h) t ≡ is_ticket_open h t
is_ticket_open-own k t mine h =
    let outside = λ (u : Ticket) (n : own k u ≡ false). other_ticket k t u mine n in
    sym (list_any-own (own k) (same_ticket t) outside (open_tickets (of_shard k h)))
    ∙ (ap (list_any (same_ticket t)) (open_tickets-own k h) ∙ list_any-own (own k) (same_ticket t) outside (open_tickets h))

pub ticket_count-own : (k : ℕ) (eui : DevEui) → shard_of eui ≡ k → (h : List Entry) → ticket_count (of_shard k h) eui ≡ ticket_count h eui
ticket_count-own k eui mine h =
    let of_device = λ (u : Ticket). same_device (dev_eui u) eui in
    let outside = λ (u : Ticket) (n : own k u ≡ false). other_device k (dev_eui u).0 eui.0 mine n in
    sym (count_by-own (own k) of_device outside (open_tickets (of_shard k h)))
    ∙ (ap (count_by of_device) (open_tickets-own k h) ∙ count_by-own (own k) of_device outside (open_tickets h))

pub ticket_copies-own : (k : ℕ) (t : Ticket) → own k t ≡ true → (h : List Entry) → ticket_copies (of_shard k h) t ≡ ticket_copies h t
ticket_copies-own k t mine h =
    ap (λ es. copies_of_ticket es t) (from_last-own (here k) (asks_for t) (λ e n. asks-other k t mine e.call e.reply n) h)
    ∙ ap (map (λ c. c.1)) (filter_map-own (here k) (λ e. ticket_copy_in e.call e.reply) (λ x. same_ticket t x.0) (λ e n. copy-other k t mine e.call e.reply n) (from_last (asks_for t) h))

-- ---- the replies

greatest-own : (net : Network) (h : List Entry) (eui : DevEui) → greatest_nonce net (of_shard (shard_of eui) h) eui ≡ greatest_nonce net h eui
greatest-own net h eui = ap (λ accepted. greater (last_nonce net eui) (maximum (map (λ a. (nonce a.ticket).0) accepted))) (acceptances-own (shard_of eui) eui refl h)

pub reply_to_join-own : (net : Network) (h : List Entry) (t : Ticket) → reply_to_join net (of_shard (shard_of (dev_eui t)) h) t ≡ reply_to_join net h t
reply_to_join-own net h t =
    let k : ℕ = shard_of (dev_eui t) in
    let mine : own k t ≡ true = eq-eqb k k refl in
    let greatest = greatest-own net h (dev_eui t) in
    let is_open = is_ticket_open-own k t mine h in
    let copies = ticket_copies-own k t mine h in
    let tickets = ticket_count-own k (dev_eui t) refl h in
    λ i. join_rule t (record { known = is_known net (dev_eui t) (join_eui t); greatest = greatest i; copies = when (is_open i) (length (copies i)); tickets = tickets i })

pub reply_to_join_reply-own : (net : Network) (h : List Entry) (t : Ticket) (o : Outcome) → reply_to_join_reply net (of_shard (shard_of (dev_eui t)) h) t o ≡ reply_to_join_reply net h t o
reply_to_join_reply-own net h t o =
    let k : ℕ = shard_of (dev_eui t) in
    let is_open = is_ticket_open-own k t (eq-eqb k k refl) h in
    let greatest = greatest-own net h (dev_eui t) in
    let session : next_session (of_shard k h) (dev_eui t) ≡ next_session h (dev_eui t) = ap (λ accepted. unwrap_or (maximum (map (λ a. a.session) accepted)) 0 + 1) (acceptances-own k (dev_eui t) refl h) in
    λ i. answer_rule t (record { is_open = is_open i; failed = is_failed o; greatest = greatest i; session = session i; addr = address net (dev_eui t) })
