-- The devices of open tickets.
use Rattle.std.proofs.Common.{◌≡◌, ℕ, ◌<◌, true, not, List, IfSome, sym, subst}
use Rattle.std.specs.List.{AllByRecursion}
use Rattle.ns_types.specs.declared.ticket.Ticket.{Ticket}
use Rattle.ns_types.specs.Ticket.{dev_eui, join_eui}
use Rattle.ns_roster.specs.Network.{Network, is_known}
use Rattle.ns_calls.specs.declared.call.Call.{Call}
use Rattle.ns_calls.specs.declared.call.Call.TheVariants as call
use Rattle.ns_calls.specs.declared.call.Entry.{Entry}
use Rattle.ns_calls.specs.History.{ends_ticket, open_tickets, ticket_count, asked}
use Rattle.ns_calls.proofs.Says.{asking_in, uplink-says, answer-says, close-says}
use Rattle.ns_calls.specs.Reply.{most_tickets, reply_to}
use Rattle.ns_calls.specs.Legal.{IsLegal, entry_for, with_call}
use Rattle.ns_calls.specs.Headline.{TicketsAreKnown}
use Rattle.ns_calls.proofs.Lists.{All-after, IfSome-weaker}
use Rattle.ns_calls.proofs.PushLemmas.{open_tickets-push}
use Rattle.ns_calls.proofs.JoinLemmas.{join-has}
use Rattle.ns_calls.proofs.Induction.{legal_induction}

-- a ticket that is asked for is of a device that the network knows, and that has room for it
abbrev pub IsAsked : Network → List Entry → Ticket → Type 0
IsAsked net h t = (is_known net (dev_eui t) (join_eui t) ≡ true) × (ticket_count h (dev_eui t) < most_tickets)

pub asking-new : (net : Network) (h : List Entry) (c : Call) → IfSome (asking_in c (reply_to net h c)) (IsAsked net h)
asking-new net h (call.Uplink frame heard) = uplink-says (λ s. IfSome (asked s) (IsAsked net h)) frame heard (λ w. tt) (λ w. tt) (λ w. tt) tt (reply_to net h (call.Uplink frame heard))
asking-new net h (call.JoinReply u o) = answer-says (λ s. IfSome (asked s) (IsAsked net h)) u o (λ n. tt) tt tt (reply_to net h (call.JoinReply u o))
asking-new net h (call.Close w) = close-says (λ s. IfSome (asked s) (IsAsked net h)) w (λ ack. tt) tt (reply_to net h (call.Close w))
asking-new net h (call.Join t heard) = join-has (λ r. IfSome (asking_in (call.Join t heard) r) (IsAsked net h)) net h t (record {
  unknown = λ unknown. tt;
  old = λ known greatest. tt;
  copied = λ known room. tt;
  crowded = tt;
  busy = tt;
  ask = λ known closed room. (known, room);
})

known_step : (net : Network) (h : List Entry) (number : ℕ) (c : Call) → TicketsAreKnown net h → TicketsAreKnown net (with_call net h number c)
known_step net h number c known =
    subst (AllByRecursion Known) (sym (open_tickets-push h e))
    (All-after Known (λ t. not (ends_ticket t e)) (open_tickets h) (asking_in c (reply_to net h c)) known
    (IfSome-weaker (IsAsked net h) Known (asking_in c (reply_to net h c)) (λ t is. is.0) (asking-new net h c)))
  where
    e : Entry
    e = entry_for net h number c

    Known : Ticket → Type 0
    Known t = is_known net (dev_eui t) (join_eui t) ≡ true

pub tickets_known : (net : Network) (h : List Entry) → IsLegal net h → TicketsAreKnown net h
tickets_known net h legal = legal_induction net (TicketsAreKnown net) tt (λ g number c ok known. known_step net g number c known) h legal
