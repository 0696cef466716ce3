-- Join-Requests and answers of join servers agree with the history.
use Rattle.std.proofs.Common.{◌≡◌, ℕ, Bool, true, false, not, cond, List, [], ◌∷◌, ◌++◌, length, nat_le, Option, None, Some, option_map, refl, sym, ap, ap₂, ◌∙◌, IfSome, arith}
use Rattle.std.proofs.lemmas.List.{length-map}
use Rattle.std.proofs.lemmas.List.Sums.{length-filter}
use Rattle.ns_types.specs.declared.identity.DevEui.{DevEui}
use Rattle.ns_types.specs.declared.heard.Heard.{Heard}
use Rattle.ns_types.specs.declared.ticket.Ticket.{Ticket}
use Rattle.ns_types.specs.Cases.{first_case, when}
use Rattle.ns_types.specs.Ticket.{dev_eui, join_eui}
use Rattle.ns_roster.specs.Network.{Network, is_known}
use Rattle.ns_calls.specs.declared.call.Call.TheVariants as call
use Rattle.ns_calls.specs.declared.call.Reply.{Reply}
use Rattle.ns_calls.specs.declared.call.Reply.TheVariants as reply
use Rattle.ns_calls.specs.declared.call.Entry.{Entry}
use Rattle.ns_calls.specs.History.{open_tickets, is_ticket_open, ticket_count, ticket_copies, closings, last_nonce}
use Rattle.ns_calls.specs.Headline.{session_round, nonce_at_or_above}
use Rattle.ns_calls.specs.Entries.{acceptances, openings, same_device, accepted, first_opened, opened, closed}
use Rattle.ns_calls.specs.Reply.{join_copy_reply, most_tickets, JoinFacts, join_facts, join_rule, reply_to_join}
use Rattle.ns_calls.specs.Legal.{IsLegal, entry_of}
use Rattle.ns_sessions.specs.declared.ticket.OpenTicket.{OpenTicket}
use Rattle.ns_sessions.specs.declared.decision.JoinDecision.{JoinDecision}
use Rattle.ns_sessions.specs.declared.decision.JoinDecision.TheVariants as join
use Rattle.ns_sessions.specs.Record.{DeviceRecord, device_record, ticket_record, tickets_of, ticket_in, decision_of, join_decision, with_join}
use Rattle.ns_sessions.specs.Laws.{join_decision_reply, JoinsAgree}
use Rattle.ns_sessions.proofs.Sessions.{sessions_by}
use Rattle.ns_sessions.proofs.Records.{tickets_said, record_by, record_said, sessions_keep}
use Rattle.ns_sessions.proofs.JoinSteps.{tickets_asked, tickets_copied, among_said}
use Rattle.ns_sessions.proofs.Uplinks.{record_stays}
use Rattle.ns_calls.proofs.Says.{join-says}

-- the record, by what the history says
abbrev pub said_of : Network → List Entry → DevEui → DeviceRecord
said_of net h eui = record_by (last_nonce net eui) (acceptances h eui) (sessions_by (acceptances h eui) (openings h eui) (session_round h eui) (closings h eui)) (tickets_said h eui)

pub ticket_said : (net : Network) (h : List Entry) (t : Ticket) → ticket_in (said_of net h (dev_eui t)) t ≡ cond (is_ticket_open h t) (Some (ticket_record h t)) None
ticket_said net h t = among_said h t (open_tickets h)

-- ---- Join-Requests

-- the reply by its facts, where the device is known
abbrev known_reply : Ticket → Option ℕ → Option ℕ → Bool → Reply
known_reply t stale copies busy =
    first_case (when (not true) reply.NoDevice ∷ option_map (λ g. reply.NonceOld (record { 0 = g })) stale ∷ option_map join_copy_reply copies ∷ when busy reply.JoinBusy ∷ []) (reply.Ask t)

-- its decision stands for it
told_back : (t : Ticket) (stale copies : Option ℕ) (busy : Bool) → join_decision_reply t (decision_of (known_reply t stale copies busy)) ≡ known_reply t stale copies busy
told_back t stale copies busy = grind arith

count_said : (h : List Entry) (eui : DevEui) → length (tickets_said h eui) ≡ ticket_count h eui
count_said h eui = length-map (tickets_of h eui) (ticket_record h) ∙ length-filter (λ u. same_device (dev_eui u) eui) (open_tickets h)

copies_said : (net : Network) (h : List Entry) (t : Ticket) → option_map (λ (o : OpenTicket). o.copies.count) (ticket_in (said_of net h (dev_eui t)) t) ≡ when (is_ticket_open h t) (length (ticket_copies h t))
copies_said net h t = grind (arith, ticket_said net h t)

-- the decision, by what the history says
decision_said : (net : Network) (h : List Entry) (t : Ticket) →
    join_decision (device_record net h (dev_eui t)) t ≡ decision_of (known_reply t (nonce_at_or_above net h t) (when (is_ticket_open h t) (length (ticket_copies h t))) (nat_le most_tickets (ticket_count h (dev_eui t))))
decision_said net h t =
    ap (λ r. join_decision r t) (record_said net h (dev_eui t))
    ∙ ap₂ (λ copies n. decision_of (known_reply t (nonce_at_or_above net h t) copies (nat_le most_tickets n))) (copies_said net h t) (count_said h (dev_eui t))

join_replies : (net : Network) (h : List Entry) (t : Ticket) → is_known net (dev_eui t) (join_eui t) ≡ true → join_decision_reply t (join_decision (device_record net h (dev_eui t)) t) ≡ reply_to_join net h t
join_replies net h t known =
    ap (join_decision_reply t) (decision_said net h t)
    ∙ (told_back t (nonce_at_or_above net h t) (when (is_ticket_open h t) (length (ticket_copies h t))) (nat_le most_tickets (ticket_count h (dev_eui t)))
    ∙ sym (ap (λ b. let facts : JoinFacts = record (join_facts net h t) { known = b } in join_rule t facts) known))

-- what is asked for was not open
asked_closed : (t : Ticket) (stale : Option ℕ) (is_open : Bool) (n : ℕ) (busy : Bool) → decision_of (known_reply t stale (when is_open n) busy) ≡ join.Ask → is_open ≡ false
asked_closed t stale is_open n busy is = grind arith

-- the sessions stay
join_keeps : (net : Network) (h : List Entry) (number : ℕ) (t : Ticket) (heard : Heard) (r : Reply) → let e : Entry = entry_of number (call.Join t heard) r in
    device_record net (h ++ e ∷ []) (dev_eui t) ≡ record_by (last_nonce net (dev_eui t)) (acceptances h (dev_eui t)) (sessions_by (acceptances h (dev_eui t)) (openings h (dev_eui t)) (session_round h (dev_eui t)) (closings h (dev_eui t))) (tickets_said (h ++ e ∷ []) (dev_eui t))
join_keeps net h number t heard r =
    let eui : DevEui = dev_eui t in
    sessions_keep net h (entry_of number (call.Join t heard) r) eui
    (join-says (λ s. IfSome (accepted s) (λ a. same_device a.eui eui ≡ false)) t heard tt tt tt r)
    (join-says (λ s. IfSome (first_opened s) (λ a. same_device a.window.eui eui ≡ false)) t heard tt tt tt r)
    (join-says (λ s. IfSome (closed s) (λ a. same_device a.window.eui eui ≡ false)) t heard tt tt tt r)
    (join-says (λ s. IfSome (opened s) (λ o. same_device o.window.eui eui ≡ false)) t heard tt tt tt r)

after_decision : (net : Network) (h : List Entry) → IsLegal net h → (number : ℕ) (t : Ticket) (heard : Heard) (decision : JoinDecision) → (decision ≡ join.Ask → is_ticket_open h t ≡ false) →
    with_join decision t heard (device_record net h (dev_eui t)) ≡ device_record net (h ++ entry_of number (call.Join t heard) (join_decision_reply t decision) ∷ []) (dev_eui t)
after_decision net h legal number t heard join.Ask closed = cc (record_said net h (dev_eui t), join_keeps net h number t heard (reply.Ask t), tickets_asked h number t heard (closed refl))
after_decision net h legal number t heard (join.Copied place) closed = cc (record_said net h (dev_eui t), join_keeps net h number t heard (reply.JoinCopied place), tickets_copied net h legal number place t heard)
after_decision net h legal number t heard join.Crowded closed = sym (record_stays net h (entry_of number (call.Join t heard) reply.JoinCrowded) (dev_eui t) refl)
after_decision net h legal number t heard (join.Old greatest) closed = sym (record_stays net h (entry_of number (call.Join t heard) (reply.NonceOld greatest)) (dev_eui t) refl)
after_decision net h legal number t heard join.Busy closed = sym (record_stays net h (entry_of number (call.Join t heard) reply.JoinBusy) (dev_eui t) refl)

pub joins_agree : (net : Network) (h : List Entry) → JoinsAgree net h
joins_agree net h = record {
  replies = λ t known. join_replies net h t known;
  records = λ legal number t heard known.
      (let decision = join_decision (device_record net h (dev_eui t)) t in
      after_decision net h legal number t heard decision (λ is. asked_closed t (nonce_at_or_above net h t) (is_ticket_open h t) (length (ticket_copies h t)) (nat_le most_tickets (ticket_count h (dev_eui t))) (sym (decision_said net h t) ∙ is))
      ∙ ap (λ r. device_record net (h ++ entry_of number (call.Join t heard) r ∷ []) (dev_eui t)) (join_replies net h t known));
}
