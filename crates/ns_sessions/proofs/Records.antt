-- What a history says of a device, by its acceptances, openings, closings and tickets.
use Rattle.std.proofs.Common.{◌≡◌, ℕ, ◌+◌, Bool, true, false, cond, List, [], ◌∷◌, ◌++◌, filter, map, unwrap_or, Option, None, Some, IfSome, option_map, option_to_list, refl, ap, ◌∙◌, arith, filter_map}
use Rattle.std.proofs.lemmas.List.{append-nil}
use Rattle.ns_types.specs.declared.identity.DevEui.{DevEui}
use Rattle.ns_types.specs.Ticket.{nonce}
use Rattle.ns_roster.specs.Network.{Network}
use Rattle.ns_calls.specs.declared.call.Entry.{Entry}
use Rattle.ns_calls.specs.Queries.{greater, maximum}
use Rattle.ns_calls.specs.Entries.{Acceptance, Opening, Closing, acceptances, openings, same_device, Said, Closes, said, accepted, first_opened, opened, closed}
use Rattle.ns_calls.proofs.Says.{acceptance_in, opening_in, closing_in, window_in}
use Rattle.ns_calls.specs.History.{closings, first_and_other, last_nonce}
use Rattle.ns_calls.specs.Headline.{session_round}
use Rattle.ns_calls.proofs.LocalJoin.{none_single}
use Rattle.ns_calls.proofs.PushLemmas.{acceptances-push, openings-push, closings-push}
use Rattle.ns_sessions.specs.declared.session.Session.{Session}
use Rattle.ns_sessions.specs.declared.ticket.OpenTicket.{OpenTicket}
use Rattle.ns_sessions.specs.Record.{DeviceRecord, device_record, ticket_record, tickets_of}
use Rattle.ns_sessions.specs.Laws.{changed, concerns}
use Rattle.ns_sessions.proofs.Sessions.{join_by, counter_by, greatest_ack_by, next_ack_by, session_of, active_by, newest_by, sessions_by, ack-push}
use Rattle.ns_sessions.proofs.Rounds.{rounds-stay}
use Rattle.ns_sessions.proofs.Basics.{greater-none}
use Rattle.std.specs.Option.{option_map_or}

abbrev pub tickets_said : List Entry → DevEui → List OpenTicket
tickets_said h eui = map (ticket_record h) (tickets_of h eui)

abbrev pub record_by : Option ℕ → List Acceptance → List Session → List OpenTicket → DeviceRecord
record_by named joins sessions tickets = record {
  greatest_nonce = greater named (maximum (map (λ (a : Acceptance). (nonce a.ticket).0) joins));
  next_session = unwrap_or (maximum (map (λ (a : Acceptance). a.session) joins)) 0 + 1;
  sessions = sessions;
  tickets = tickets;
}

pub record_said : (net : Network) (h : List Entry) (eui : DevEui) → device_record net h eui ≡ record_by (last_nonce net eui) (acceptances h eui) (sessions_by (acceptances h eui) (openings h eui) (session_round h eui) (closings h eui)) (tickets_said h eui)
unfolding device_record
record_said net h eui = refl

pub sessions_said : (net : Network) (h : List Entry) (eui : DevEui) → (device_record net h eui).sessions ≡ sessions_by (acceptances h eui) (openings h eui) (session_round h eui) (closings h eui)
unfolding device_record
sessions_said net h eui = refl

-- ---- what an entry adds to the acceptances, openings and closings of a device

-- nothing is added where nothing of the device is said
pub none_added : {X : Type 0} (own : X → Bool) (xs : List X) (o : Option X) → IfSome o (λ x. own x ≡ false) → xs ++ filter own (option_to_list o) ≡ xs
none_added own xs None others = append-nil xs
none_added own xs (Some x) others = ap (λ ys. xs ++ ys) (none_single own x others) ∙ append-nil xs

pub one_added : {X : Type 0} (own : X → Bool) (xs : List X) (x : X) → own x ≡ true → xs ++ filter own (x ∷ []) ≡ xs ++ x ∷ []
one_added {X} own xs x mine = ap (λ b. xs ++ cond {A = List X} b (x ∷ []) []) mine

-- what an entry says changes nothing of the device
abbrev pub IsQuietOf : DevEui → Said → Type 0
IsQuietOf eui s = option_map_or (λ d. same_device d eui) (changed s) false ≡ false

acceptance-other : (eui : DevEui) (s : Said) → IsQuietOf eui s → IfSome (accepted s) (λ a. same_device a.eui eui ≡ false)
acceptance-other eui s other = grind arith

opening-other : (eui : DevEui) (s : Said) → IsQuietOf eui s → IfSome (first_opened s) (λ o. same_device o.window.eui eui ≡ false)
opening-other eui s other = grind arith

window-other : (eui : DevEui) (s : Said) → IsQuietOf eui s → IfSome (opened s) (λ o. same_device o.window.eui eui ≡ false)
window-other eui s other = grind arith

-- a closing of another device, or with no number, leaves the greatest number
acks_stay : (eui : DevEui) (s : Said) (cs : List Closing) (n : ℕ) → IsQuietOf eui s → greatest_ack_by (cs ++ filter (λ x. same_device x.window.eui eui) (option_to_list (closed s))) n ≡ greatest_ack_by cs n
acks_stay eui (Closes c) cs n other = grind (arith, ack-push cs c n, append-nil, greater-none)
acks_stay eui _ cs n other = ap (λ ys. greatest_ack_by ys n) (append-nil cs)

pub sessions_stay : (h : List Entry) (e : Entry) (eui : DevEui) → concerns eui e.call e.reply ≡ false →
    sessions_by (acceptances (h ++ e ∷ []) eui) (openings (h ++ e ∷ []) eui) (session_round (h ++ e ∷ []) eui) (closings (h ++ e ∷ []) eui) ≡ sessions_by (acceptances h eui) (openings h eui) (session_round h eui) (closings h eui)
sessions_stay h e eui other =
    let joins : acceptances (h ++ e ∷ []) eui ≡ acceptances h eui = acceptances-push h e eui ∙ none_added (λ (a : Acceptance). same_device a.eui eui) (acceptances h eui) (acceptance_in e.call e.reply) (acceptance-other eui (said e.call e.reply) other) in
    let os : openings (h ++ e ∷ []) eui ≡ openings h eui = openings-push h e eui ∙ none_added (λ (o : Opening). same_device o.window.eui eui) (openings h eui) (opening_in e.call e.reply) (opening-other eui (said e.call e.reply) other) in
    let cs : (n : ℕ) → greatest_ack_by (closings (h ++ e ∷ []) eui) n ≡ greatest_ack_by (closings h eui) n = λ n. ap (λ ys. greatest_ack_by ys n) (closings-push h e eui) ∙ acks_stay eui (said e.call e.reply) (closings h eui) n other in
    let rs : session_round (h ++ e ∷ []) eui ≡ session_round h eui = rounds-stay h e eui os (window-other eui (said e.call e.reply) other) in
    λ i. filter_map (λ n. option_map (session_of n (counter_by (os i) n) (rs i n) (next_ack_by (cs n i))) (join_by (joins i) n)) (first_and_other (active_by (os i)) (newest_by (joins i)))

pub acceptances_stay : (h : List Entry) (e : Entry) (eui : DevEui) → concerns eui e.call e.reply ≡ false → acceptances (h ++ e ∷ []) eui ≡ acceptances h eui
acceptances_stay h e eui other = acceptances-push h e eui ∙ none_added (λ (a : Acceptance). same_device a.eui eui) (acceptances h eui) (acceptance_in e.call e.reply) (acceptance-other eui (said e.call e.reply) other)

-- an entry that accepts, opens and closes nothing of a device leaves all but its tickets
pub sessions_keep : (net : Network) (h : List Entry) (e : Entry) (eui : DevEui) → IfSome (acceptance_in e.call e.reply) (λ a. same_device a.eui eui ≡ false) → IfSome (opening_in e.call e.reply) (λ o. same_device o.window.eui eui ≡ false) →
    IfSome (closing_in e.call e.reply) (λ c. same_device c.window.eui eui ≡ false) → IfSome (window_in e.call e.reply) (λ o. same_device o.window.eui eui ≡ false) →
    device_record net (h ++ e ∷ []) eui ≡ record_by (last_nonce net eui) (acceptances h eui) (sessions_by (acceptances h eui) (openings h eui) (session_round h eui) (closings h eui)) (tickets_said (h ++ e ∷ []) eui)
sessions_keep net h e eui accepts opens closes windows =
    let joins : acceptances (h ++ e ∷ []) eui ≡ acceptances h eui = acceptances-push h e eui ∙ none_added (λ (a : Acceptance). same_device a.eui eui) (acceptances h eui) (acceptance_in e.call e.reply) accepts in
    let os : openings (h ++ e ∷ []) eui ≡ openings h eui = openings-push h e eui ∙ none_added (λ (o : Opening). same_device o.window.eui eui) (openings h eui) (opening_in e.call e.reply) opens in
    let cs : closings (h ++ e ∷ []) eui ≡ closings h eui = closings-push h e eui ∙ none_added (λ (c : Closing). same_device c.window.eui eui) (closings h eui) (closing_in e.call e.reply) closes in
    let rs : session_round (h ++ e ∷ []) eui ≡ session_round h eui = rounds-stay h e eui os windows in
    record_said net (h ++ e ∷ []) eui ∙ (λ i. record_by (last_nonce net eui) (joins i) (sessions_by (joins i) (os i) (rs i) (cs i)) (tickets_said (h ++ e ∷ []) eui))
