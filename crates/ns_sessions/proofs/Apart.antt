-- In a legal history no ticket is open twice.
use Rattle.std.proofs.Common.{◌≡◌, ℕ, Bool, false, not, List, [], ◌∷◌, ◌++◌, filter, Option, None, Some, IfSome, option_to_list, sym, subst, arith}
use Rattle.std.specs.List.{AllByRecursion, list_any}
use Rattle.std.proofs.lemmas.List.{append-nil}
use Rattle.ns_types.specs.declared.ticket.Ticket.{Ticket}
use Rattle.ns_roster.specs.Network.{Network}
use Rattle.ns_calls.specs.declared.call.Call.{Call}
use Rattle.ns_calls.specs.declared.call.Call.TheVariants as call
use Rattle.ns_calls.specs.declared.call.Entry.{Entry}
use Rattle.ns_calls.specs.History.{same_ticket, ends_ticket, open_tickets, is_ticket_open, asked}
use Rattle.ns_calls.proofs.Says.{asking_in, uplink-says, answer-says, close-says}
use Rattle.ns_calls.specs.Reply.{reply_to}
use Rattle.ns_calls.specs.Legal.{IsLegal, entry_for, with_call}
use Rattle.ns_calls.proofs.Lists.{All-append, All-filter}
use Rattle.ns_calls.proofs.Induction.{legal_induction}
use Rattle.ns_calls.proofs.JoinLemmas.{join-has}
use Rattle.ns_calls.proofs.PushLemmas.{open_tickets-push}
use Rattle.ns_sessions.proofs.OpenTickets.{same_ticket-sym}

-- no two tickets are equal
abbrev pub AreApart : List Ticket → Type 0
AreApart [] = Unit {0}
AreApart (t ∷ ts) = AllByRecursion (λ u. same_ticket t u ≡ false) ts × AreApart ts

pub none_equal : (t : Ticket) (ts : List Ticket) → list_any (same_ticket t) ts ≡ false → AllByRecursion (λ u. same_ticket u t ≡ false) ts
none_equal t [] is = tt
none_equal t (u ∷ ts) is = grind (arith, same_ticket-sym t u false, none_equal t ts)

pub apart-filter : (keep : Ticket → Bool) (ts : List Ticket) → AreApart ts → AreApart (filter keep ts)
apart-filter keep [] apart = tt
apart-filter keep (t ∷ ts) apart = grind (arith, All-filter (λ u. same_ticket t u ≡ false) keep ts apart.0, apart-filter keep ts apart.1)

pub apart-push : (t : Ticket) (ts : List Ticket) → AllByRecursion (λ u. same_ticket u t ≡ false) ts → AreApart ts → AreApart (ts ++ t ∷ [])
apart-push t [] new apart = (tt, tt)
apart-push t (u ∷ ts) new apart = (All-append (λ v. same_ticket u v ≡ false) ts (t ∷ []) apart.0 (new.0, tt), apart-push t ts new.1 apart.1)

-- what is asked for was not open
asked_new : (net : Network) (h : List Entry) (c : Call) → IfSome (asking_in c (reply_to net h c)) (λ t. is_ticket_open h t ≡ false)
asked_new net h (call.Uplink frame heard) = uplink-says (λ s. IfSome (asked s) (λ t. is_ticket_open h t ≡ false)) frame heard (λ w. tt) (λ w. tt) (λ w. tt) tt (reply_to net h (call.Uplink frame heard))
asked_new net h (call.JoinReply t o) = answer-says (λ s. IfSome (asked s) (λ u. is_ticket_open h u ≡ false)) t o (λ n. tt) tt tt (reply_to net h (call.JoinReply t o))
asked_new net h (call.Close w) = close-says (λ s. IfSome (asked s) (λ t. is_ticket_open h t ≡ false)) w (λ ack. tt) tt (reply_to net h (call.Close w))
asked_new net h (call.Join t heard) = join-has (λ r. IfSome (asking_in (call.Join t heard) r) (λ u. is_ticket_open h u ≡ false)) net h t (record {
  unknown = λ unknown. tt;
  old = λ known greatest. tt;
  copied = λ known room. tt;
  crowded = tt;
  busy = tt;
  ask = λ known closed room. closed;
})

apart_step : (net : Network) (h : List Entry) (number : ℕ) (c : Call) → AreApart (open_tickets h) → AreApart (open_tickets (with_call net h number c))
apart_step net h number c apart =
    let keep : Ticket → Bool = λ t. not (ends_ticket t (entry_for net h number c)) in
    subst AreApart (sym (open_tickets-push h (entry_for net h number c))) (more (asking_in c (reply_to net h c)) (asked_new net h c) (filter keep (open_tickets h)) (apart-filter keep (open_tickets h) apart)
    (λ P all. All-filter P keep (open_tickets h) all))
  where
    more : (o : Option Ticket) → IfSome o (λ t. is_ticket_open h t ≡ false) → (ts : List Ticket) → AreApart ts →
        ((P : Ticket → Type 0) → AllByRecursion P (open_tickets h) → AllByRecursion P ts) → AreApart (ts ++ option_to_list o)
    more None new ts still part = subst AreApart (sym (append-nil ts)) still
    more (Some t) new ts still part = apart-push t ts (part (λ u. same_ticket u t ≡ false) (none_equal t (open_tickets h) new)) still

pub tickets_apart : (net : Network) (h : List Entry) → IsLegal net h → AreApart (open_tickets h)
tickets_apart net h legal = legal_induction net (λ g. AreApart (open_tickets g)) tt (λ g number c ok apart. apart_step net g number c apart) h legal
