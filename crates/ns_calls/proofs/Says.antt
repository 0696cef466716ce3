-- What an entry says, in parts, and by its call alone, whatever its reply.
use Rattle.std.proofs.Common.{◌≡◌, ℕ, Bool, true, false, List, Option, None, Some, IfSome, refl}
use Rattle.std.specs.Option.{option_map_or}
use Rattle.ns_types.specs.declared.identity.WindowName.{WindowName}
use Rattle.ns_types.specs.declared.heard.Heard.{Heard}
use Rattle.ns_types.specs.declared.ticket.Ticket.{Ticket}
use Rattle.ns_calls.specs.declared.call.JoinAns.{JoinAns}
use Rattle.ns_calls.specs.declared.call.Outcome.{Outcome}
use Rattle.ns_calls.specs.declared.call.Outcome.TheVariants as outcome
use Rattle.ns_types.specs.Ticket.{dev_eui}
use Rattle.ns_calls.specs.declared.call.Call.{Call}
use Rattle.ns_calls.specs.declared.call.Call.TheVariants as call
use Rattle.ns_calls.specs.declared.call.Reply.{Reply}
use Rattle.ns_calls.specs.declared.call.Reply.TheVariants as reply
use Rattle.ns_calls.specs.Entries.{Acceptance, Opening, Closing, Said, Opens, OpensAgain, Copies, Closes, Asks, CopiesJoin, Accepts, Refuses, Nothing, said, accepted, first_opened, opened, closed}
use Rattle.ns_calls.specs.History.{asked, ended, copied, join_copied, same_ticket}

abbrev pub acceptance_in : Call → Reply → Option Acceptance
acceptance_in c r = accepted (said c r)

abbrev pub opening_in : Call → Reply → Option Opening
opening_in c r = first_opened (said c r)

abbrev pub window_in : Call → Reply → Option Opening
window_in c r = opened (said c r)

abbrev pub closing_in : Call → Reply → Option Closing
closing_in c r = closed (said c r)

abbrev pub asking_in : Call → Reply → Option Ticket
asking_in c r = asked (said c r)

abbrev pub ending_in : Call → Reply → Option Ticket
ending_in c r = ended (said c r)

abbrev pub window_copy_in : Call → Reply → Option (WindowName × Heard)
window_copy_in c r = copied (said c r)

abbrev pub ticket_copy_in : Call → Reply → Option (Ticket × Heard)
ticket_copy_in c r = join_copied (said c r)

abbrev pub is_ticket : Ticket → Option Ticket → Bool
is_ticket t o = option_map_or (same_ticket t) o false

-- an uplink and its window
abbrev pub opening_of : WindowName → List ℕ → Heard → Opening
opening_of w frame heard = record { window = w; frame = frame; heard = heard }

-- ---- what an entry says by its call, whatever its reply

pub uplink-says : (P : Said → Type 0) (frame : List ℕ) (heard : Heard) → ((w : WindowName) → P (Opens (opening_of w frame heard)))
    → ((w : WindowName) → P (OpensAgain (opening_of w frame heard))) → ((w : WindowName) → P (Copies w heard)) → P Nothing → (r : Reply) → P (said (call.Uplink frame heard) r)
uplink-says P frame heard opens again copies nothing (reply.Opened w) = opens w
uplink-says P frame heard opens again copies nothing (reply.Again w) = again w
uplink-says P frame heard opens again copies nothing (reply.Copied w place) = copies w
uplink-says P frame heard opens again copies nothing _ = nothing

pub join-says : (P : Said → Type 0) (t : Ticket) (heard : Heard) → P (Asks t heard) → P (CopiesJoin t heard) → P Nothing → (r : Reply) → P (said (call.Join t heard) r)
join-says P t heard asks copies nothing (reply.Ask u) = asks
join-says P t heard asks copies nothing (reply.JoinCopied place) = copies
join-says P t heard asks copies nothing _ = nothing

pub answer-says : (P : Said → Type 0) (t : Ticket) (o : Outcome) → ((session : ℕ) → P (Accepts t session o)) → P (Refuses t) → P Nothing → (r : Reply) → P (said (call.JoinReply t o) r)
answer-says P t o accepts refuses nothing (reply.Accepted eui session addr) = accepts session
answer-says P t o accepts refuses nothing reply.JoinRefused = refuses
answer-says P t o accepts refuses nothing (reply.JoinStale greatest) = refuses
answer-says P t o accepts refuses nothing _ = nothing

pub close-says : (P : Said → Type 0) (w : WindowName) → ((ack : Option ℕ) → P (Closes (record { window = w; ack = ack }))) → P Nothing → (r : Reply) → P (said (call.Close w) r)
close-says P w closes nothing (reply.Closed v ack) = closes ack
close-says P w closes nothing _ = nothing

-- ---- each part of it with the call

pub closed-by : (P : Call → Option Closing → Type 0) → ((c : Call) → P c None) → ((w : WindowName) (ack : Option ℕ) → P (call.Close w) (Some (record { window = w; ack = ack })))
    → (c : Call) (r : Reply) → P c (closing_in c r)
closed-by P none some (call.Uplink frame heard) r = uplink-says (λ s. P (call.Uplink frame heard) (closed s)) frame heard (λ w. none (call.Uplink frame heard)) (λ w. none (call.Uplink frame heard)) (λ w. none (call.Uplink frame heard)) (none (call.Uplink frame heard)) r
closed-by P none some (call.Join t heard) r = join-says (λ s. P (call.Join t heard) (closed s)) t heard (none (call.Join t heard)) (none (call.Join t heard)) (none (call.Join t heard)) r
closed-by P none some (call.JoinReply t o) r = answer-says (λ s. P (call.JoinReply t o) (closed s)) t o (λ n. none (call.JoinReply t o)) (none (call.JoinReply t o)) (none (call.JoinReply t o)) r
closed-by P none some (call.Close w) r = close-says (λ s. P (call.Close w) (closed s)) w (some w) (none (call.Close w)) r

pub asked-by : (P : Call → Option Ticket → Type 0) → ((c : Call) → P c None) → ((t : Ticket) (heard : Heard) → P (call.Join t heard) (Some t)) → (c : Call) (r : Reply) → P c (asking_in c r)
asked-by P none some (call.Uplink frame heard) r = uplink-says (λ s. P (call.Uplink frame heard) (asked s)) frame heard (λ w. none (call.Uplink frame heard)) (λ w. none (call.Uplink frame heard)) (λ w. none (call.Uplink frame heard)) (none (call.Uplink frame heard)) r
asked-by P none some (call.Join t heard) r = join-says (λ s. P (call.Join t heard) (asked s)) t heard (some t heard) (none (call.Join t heard)) (none (call.Join t heard)) r
asked-by P none some (call.JoinReply t o) r = answer-says (λ s. P (call.JoinReply t o) (asked s)) t o (λ n. none (call.JoinReply t o)) (none (call.JoinReply t o)) (none (call.JoinReply t o)) r
asked-by P none some (call.Close w) r = close-says (λ s. P (call.Close w) (asked s)) w (λ ack. none (call.Close w)) (none (call.Close w)) r

pub join_copied-by : (P : Call → Option (Ticket × Heard) → Type 0) → ((c : Call) → P c None) → ((t : Ticket) (heard : Heard) → P (call.Join t heard) (Some (t, heard))) → (c : Call) (r : Reply) → P c (ticket_copy_in c r)
join_copied-by P none some (call.Uplink frame heard) r = uplink-says (λ s. P (call.Uplink frame heard) (join_copied s)) frame heard (λ w. none (call.Uplink frame heard)) (λ w. none (call.Uplink frame heard)) (λ w. none (call.Uplink frame heard)) (none (call.Uplink frame heard)) r
join_copied-by P none some (call.Join t heard) r = join-says (λ s. P (call.Join t heard) (join_copied s)) t heard (some t heard) (some t heard) (none (call.Join t heard)) r
join_copied-by P none some (call.JoinReply t o) r = answer-says (λ s. P (call.JoinReply t o) (join_copied s)) t o (λ n. none (call.JoinReply t o)) (none (call.JoinReply t o)) (none (call.JoinReply t o)) r
join_copied-by P none some (call.Close w) r = close-says (λ s. P (call.Close w) (join_copied s)) w (λ ack. none (call.Close w)) (none (call.Close w)) r

pub ended-by : (P : Call → Option Ticket → Type 0) → ((c : Call) → P c None) → ((t : Ticket) (o : Outcome) → P (call.JoinReply t o) (Some t)) → (c : Call) (r : Reply) → P c (ending_in c r)
ended-by P none some (call.Uplink frame heard) r = uplink-says (λ s. P (call.Uplink frame heard) (ended s)) frame heard (λ w. none (call.Uplink frame heard)) (λ w. none (call.Uplink frame heard)) (λ w. none (call.Uplink frame heard)) (none (call.Uplink frame heard)) r
ended-by P none some (call.Join t heard) r = join-says (λ s. P (call.Join t heard) (ended s)) t heard (none (call.Join t heard)) (none (call.Join t heard)) (none (call.Join t heard)) r
ended-by P none some (call.JoinReply t o) r = answer-says (λ s. P (call.JoinReply t o) (ended s)) t o (λ n. some t o) (some t o) (none (call.JoinReply t o)) r
ended-by P none some (call.Close w) r = close-says (λ s. P (call.Close w) (ended s)) w (λ ack. none (call.Close w)) (none (call.Close w)) r

pub accepted-by : (P : Call → Option Acceptance → Type 0) → ((c : Call) → P c None)
    → ((t : Ticket) (join : JoinAns) (session : ℕ) → P (call.JoinReply t (outcome.Success join)) (Some (record { eui = dev_eui t; session = session; ticket = t; join_ans = join }))) → (c : Call) (r : Reply) → P c (acceptance_in c r)
accepted-by P none some (call.Uplink frame heard) r = uplink-says (λ s. P (call.Uplink frame heard) (accepted s)) frame heard (λ w. none (call.Uplink frame heard)) (λ w. none (call.Uplink frame heard)) (λ w. none (call.Uplink frame heard)) (none (call.Uplink frame heard)) r
accepted-by P none some (call.Join t heard) r = join-says (λ s. P (call.Join t heard) (accepted s)) t heard (none (call.Join t heard)) (none (call.Join t heard)) (none (call.Join t heard)) r
accepted-by P none some (call.JoinReply t (outcome.Success join)) r = answer-says (λ s. P (call.JoinReply t (outcome.Success join)) (accepted s)) t (outcome.Success join) (some t join) (none (call.JoinReply t (outcome.Success join))) (none (call.JoinReply t (outcome.Success join))) r
accepted-by P none some (call.JoinReply t outcome.Failed) r = answer-says (λ s. P (call.JoinReply t outcome.Failed) (accepted s)) t outcome.Failed (λ n. none (call.JoinReply t outcome.Failed)) (none (call.JoinReply t outcome.Failed)) (none (call.JoinReply t outcome.Failed)) r
accepted-by P none some (call.Close w) r = close-says (λ s. P (call.Close w) (accepted s)) w (λ ack. none (call.Close w)) (none (call.Close w)) r

-- ---- parts of one entry

-- the call of an opening
pub opened-is : (c : Call) (r : Reply) → IfSome (window_in c r) (λ o. c ≡ call.Uplink o.frame o.heard)
opened-is (call.Uplink frame heard) r = uplink-says (λ s. IfSome (opened s) (λ o. call.Uplink frame heard ≡ call.Uplink o.frame o.heard)) frame heard (λ w. refl) (λ w. refl) (λ w. tt) tt r
opened-is (call.Join t heard) r = join-says (λ s. IfSome (opened s) (λ o. call.Join t heard ≡ call.Uplink o.frame o.heard)) t heard tt tt tt r
opened-is (call.JoinReply t x) r = answer-says (λ s. IfSome (opened s) (λ o. call.JoinReply t x ≡ call.Uplink o.frame o.heard)) t x (λ n. tt) tt tt r
opened-is (call.Close w) r = close-says (λ s. IfSome (opened s) (λ o. call.Close w ≡ call.Uplink o.frame o.heard)) w (λ ack. tt) tt r

-- an opening is a copy of its window
opened-copied : (s : Said) → IfSome (opened s) (λ o. copied s ≡ Some (o.window, o.heard))
opened-copied (Opens o) = refl
opened-copied (OpensAgain o) = refl
opened-copied _ = tt

pub opening-copy : (c : Call) (r : Reply) → IfSome (window_in c r) (λ o. window_copy_in c r ≡ Some (o.window, o.heard))
opening-copy c r = opened-copied (said c r)

first-opened : (s : Said) → IfSome (first_opened s) (λ o. opened s ≡ Some o)
first-opened (Opens o) = refl
first-opened _ = tt

-- a first window is one of any round
pub opening-window : (c : Call) (r : Reply) → IfSome (opening_in c r) (λ o. window_in c r ≡ Some o)
opening-window c r = first-opened (said c r)

-- an entry that asks for a ticket adds a copy to it
asked-copied : (t : Ticket) (s : Said) → is_ticket t (asked s) ≡ true → (u : Ticket) × (heard : Heard) × (join_copied s ≡ Some (u, heard)) × (same_ticket t u ≡ true)
asked-copied t (Asks u heard) is = (u, heard, refl, is)
asked-copied t _ is = absurd (cc is)

pub asking-copy : (t : Ticket) (c : Call) (r : Reply) → is_ticket t (asking_in c r) ≡ true → (u : Ticket) × (heard : Heard) × (ticket_copy_in c r ≡ Some (u, heard)) × (same_ticket t u ≡ true)
asking-copy t c r is = asked-copied t (said c r) is
