-- Openings and closings agree with the history, and other entries leave what it says.
use Rattle.std.proofs.Common.{◌≡◌, ℕ, ◌≤◌, ◌==◌, true, false, cond, List, [], ◌∷◌, ◌++◌, filter_map, find, Option, None, Some, IfSome, option_map, refl, sym, ap, ◌∙◌, arith}
use Rattle.std.specs.Prelude.{IsSome, is_some}
use Rattle.std.specs.List.{AllByRecursion, list_any}
use Rattle.std.specs.Option.{option_and_then}
use Rattle.std.proofs.lemmas.List.{append-nil}
use Rattle.std.proofs.lemmas.Bool.Decides.{nat_tests}
use Rattle.ns_types.specs.declared.identity.DevEui.{DevEui}
use Rattle.ns_types.specs.declared.identity.WindowName.{WindowName}
use Rattle.ns_types.specs.declared.heard.Heard.{Heard}
use Rattle.ns_types.specs.Ticket.{dev_eui}
use Rattle.ns_views.specs.Frame.{is_confirmed}
use Rattle.ns_secure.specs.Counter.{Exceeds}
use Rattle.ns_roster.specs.Network.{Network}
use Rattle.ns_calls.specs.declared.call.Call.TheVariants as call
use Rattle.ns_calls.specs.declared.call.Reply.TheVariants as reply
use Rattle.ns_calls.specs.declared.call.Entry.{Entry}
use Rattle.ns_calls.specs.Queries.{first}
use Rattle.ns_calls.specs.Entries.{Acceptance, Opening, Closing, acceptances, openings, same_device, Said, said}
use Rattle.ns_calls.specs.History.{closings, session_join, greatest_counter, last_round, next_ack_number, live, is_live, first_and_other, last_nonce, asked, ended, join_copied}
use Rattle.ns_calls.specs.Headline.{session_round}
use Rattle.ns_calls.specs.Reply as plain
use Rattle.ns_calls.specs.Reply.{Fit, fit_of, next_round, ack_number}
use Rattle.ns_calls.specs.Legal.{IsLegal, entry_of}
use Rattle.ns_calls.proofs.QueryLemmas.{last-push}
use Rattle.ns_calls.proofs.PushLemmas.{acceptances-push, openings-push, closings-push}
use Rattle.ns_calls.proofs.KeyLemmas.{sessions_have_joins}
use Rattle.ns_sessions.specs.declared.session.Session.{Session}
use Rattle.ns_sessions.specs.Record.{device_record, session_record, session_in, session_fit, IsNewCounter, with_uplink, sessions_after_uplink, next_round_in, change_session, session_in_round, with_round, session_ack, session_after_ack, ack_in, with_ack, no_joins}
use Rattle.ns_sessions.specs.Laws.{concerns, OthersStay, UplinksAgree, ClosingsAgree}
use Rattle.ns_sessions.proofs.Sessions.{counter_by, session_by, active_by, newest_by, sessions_by, counter-push, ack-push, session_by-numbered, live-apart, found_by_number}
use Rattle.ns_sessions.proofs.SessionSteps.{opened_from, live_opened, changed_in, with_counter}
use Rattle.ns_sessions.proofs.Rounds.{session_round-stays, rounds-stay, session_round-new, new-below, next_round-by}
use Rattle.ns_sessions.proofs.Records.{record_said, sessions_said, one_added, sessions_stay, acceptances_stay, IsQuietOf}
use Rattle.ns_sessions.proofs.OpenTickets.{IsQuiet, tickets_stay, same_device-refl}
use Rattle.ns_sessions.proofs.Basics.{exceeds_greater, greater-none}
use Rattle.std.proofs.Math.Bool.{and-false}

-- ---- entries that do not concern a device

quiet_asks : (eui : DevEui) (s : Said) → IsQuietOf eui s → IfSome (asked s) (λ t. same_device (dev_eui t) eui ≡ false)
quiet_asks eui s other = grind arith

quiet_ends : (eui : DevEui) (s : Said) → IsQuietOf eui s → IfSome (ended s) (λ t. same_device (dev_eui t) eui ≡ false)
quiet_ends eui s other = grind arith

quiet_copies : (eui : DevEui) (s : Said) → IsQuietOf eui s → IfSome (join_copied s) (λ x. same_device (dev_eui x.0) eui ≡ false)
quiet_copies eui s other = grind arith

pub record_stays : (net : Network) (h : List Entry) (e : Entry) (eui : DevEui) → concerns eui e.call e.reply ≡ false → device_record net (h ++ e ∷ []) eui ≡ device_record net h eui
record_stays net h e eui other =
    let quiet : IsQuiet eui e = record { asks = quiet_asks eui (said e.call e.reply) other; ends = quiet_ends eui (said e.call e.reply) other; copies = quiet_copies eui (said e.call e.reply) other } in
    cc (record_said net (h ++ e ∷ []) eui, record_said net h eui, acceptances_stay h e eui other, sessions_stay h e eui other, tickets_stay h e eui quiet)

pub others_stay : OthersStay
unfolding device_record
others_stay = record { none = λ net eui. ap no_joins (greater-none (last_nonce net eui)); others = record_stays }

-- ---- what fits

fits_in : (recover : Option ℕ → ℕ → Option ℕ) (h : List Entry) (frame : List ℕ) (eui : DevEui) (ns : List ℕ) →
    option_map (λ f. fit_of eui f.0 f.1) (first (filter_map (session_fit recover frame) (filter_map (session_record h eui) ns))) ≡ first (filter_map (plain.session_fit recover h frame eui) ns)
fits_in recover h frame eui [] = refl
fits_in recover h frame eui (n ∷ ns) = grind (arith, fits_in recover h frame eui ns)

-- ---- an uplink that is opened

-- the rounds of a device's sessions with one more opening: in its session it is 1, in others it is what it was
record AreRounds (os : List Opening) (o : Opening) (rs rt : ℕ → ℕ) : Type 0 where
  here : Exceeds (counter_by os o.window.session) o.window.fcnt → rt o.window.session ≡ 1
  elsewhere : (n : ℕ) → (o.window.session == n) ≡ false → rt n ≡ rs n

new_sessions : (joins : List Acceptance) (os : List Opening) (rs rt : ℕ → ℕ) (cs : List Closing) (o : Opening) → AreRounds os o rs rt → IsNewCounter (find (λ s. s.number == o.window.session) (sessions_by joins os rs cs)) o.window.fcnt →
    sessions_after_uplink o.window.session o.window.fcnt (sessions_by joins os rs cs) ≡ sessions_by joins (os ++ o ∷ []) rt cs
new_sessions joins os rs rt cs o rounds new =
    let s : ℕ = o.window.session in
    let ns : List ℕ = first_and_other (active_by os) (newest_by joins) in
    let was : ℕ → Option Session = session_by joins os rs cs in
    let found = found_by_number was (session_by-numbered joins os rs cs) s ns in
    let lives : list_any (λ n. n == s) ns ≡ true = grind (arith, found, new) in
    let known : is_some (was s) ≡ true = grind (arith, found, new) in
    let now : session_by joins (os ++ o ∷ []) rt cs s ≡ option_map (with_counter o.window.fcnt) (was s) = grind (arith, nat_tests, counter-push os o s, rounds.here, exceeds_greater, found, new) in
    rw (last-push os o, live_opened (active_by os) (newest_by joins) s lives)
    (sym (opened_from was (session_by joins (os ++ o ∷ []) rt cs) s o.window.fcnt (session_by-numbered joins os rs cs) apart_from known now ns (live-apart (active_by os) (newest_by joins))))
  where
    apart_from : (n : ℕ) → (n == o.window.session) ≡ false → session_by joins os rs cs n ≡ session_by joins (os ++ o ∷ []) rt cs n
    apart_from n differs = grind (arith, nat_tests, counter-push os o n, rounds.elsewhere n)

pub uplink_opened : (net : Network) (h : List Entry) → IsLegal net h → (number : ℕ) (frame : List ℕ) (heard : Heard) (w : WindowName) → w.round ≡ 1 → IsNewCounter (session_in (device_record net h w.eui) w.session) w.fcnt →
    with_uplink w.session w.fcnt (device_record net h w.eui) ≡ device_record net (h ++ entry_of number (call.Uplink frame heard) (reply.Opened w) ∷ []) w.eui
uplink_opened net h legal number frame heard w first new =
    let joins : acceptances (h ++ e ∷ []) w.eui ≡ acceptances h w.eui = acceptances-push h e w.eui ∙ append-nil (acceptances h w.eui) in
    let os : openings (h ++ e ∷ []) w.eui ≡ openings h w.eui ++ o ∷ [] = openings-push h e w.eui ∙ one_added (λ (x : Opening). same_device x.window.eui w.eui) (openings h w.eui) o (same_device-refl w.eui) in
    let cs : closings (h ++ e ∷ []) w.eui ≡ closings h w.eui = closings-push h e w.eui ∙ append-nil (closings h w.eui) in
    let tickets = tickets_stay h e w.eui (record { asks = tt; ends = tt; copies = tt }) in
    let rounds : AreRounds (openings h w.eui) o (session_round h w.eui) (session_round (h ++ e ∷ []) w.eui) = record { here = λ above. here os above; elsewhere = λ n differs. other os n differs } in
    let known = rw (sessions_said net h w.eui) at new in
    let sessions = new_sessions (acceptances h w.eui) (openings h w.eui) (session_round h w.eui) (session_round (h ++ e ∷ []) w.eui) (closings h w.eui) o rounds known in
    cc (record_said net h w.eui, record_said net (h ++ e ∷ []) w.eui)
  where
    e : Entry
    e = entry_of number (call.Uplink frame heard) (reply.Opened w)

    o : Opening
    o = record { window = w; frame = frame; heard = heard }

    here : openings (h ++ e ∷ []) w.eui ≡ openings h w.eui ++ o ∷ [] → Exceeds (counter_by (openings h w.eui) w.session) w.fcnt → session_round (h ++ e ∷ []) w.eui w.session ≡ 1
    here os above =
        let counter : counter_by (openings h w.eui ++ o ∷ []) w.session ≡ Some w.fcnt = grind (arith, nat_tests, counter-push (openings h w.eui) o w.session, exceeds_greater (counter_by (openings h w.eui) w.session) w.fcnt above) in
        session_round-new h e o refl (rw os counter) (new-below net h legal w above) ∙ first

    other : openings (h ++ e ∷ []) w.eui ≡ openings h w.eui ++ o ∷ [] → (n : ℕ) → (w.session == n) ≡ false → session_round (h ++ e ∷ []) w.eui n ≡ session_round h w.eui n
    other os n differs =
        let counter : counter_by (openings h w.eui ++ o ∷ []) n ≡ counter_by (openings h w.eui) n = grind (arith, counter-push (openings h w.eui) o n) in
        session_round-stays h e w.eui n (rw os counter) (rw (differs, and-false))

-- ---- an uplink that is opened again

again_sessions : (joins : List Acceptance) (os : List Opening) (rs rt : ℕ → ℕ) (cs : List Closing) (s round : ℕ) → rt s ≡ round → ((n : ℕ) → (s == n) ≡ false → rt n ≡ rs n) →
    change_session s (session_in_round round) (sessions_by joins os rs cs) ≡ sessions_by joins os rt cs
again_sessions joins os rs rt cs s round is others =
    let now : session_by joins os rt cs s ≡ option_map (session_in_round round) (session_by joins os rs cs s) = grind arith in
    sym (changed_in (session_in_round round) (session_by joins os rs cs) (session_by joins os rt cs) s (session_by-numbered joins os rs cs) apart_from now (first_and_other (active_by os) (newest_by joins)) (live-apart (active_by os) (newest_by joins)))
  where
    apart_from : (n : ℕ) → (n == s) ≡ false → session_by joins os rs cs n ≡ session_by joins os rt cs n
    apart_from n differs = grind (arith, nat_tests, others n)

pub uplink_again : (net : Network) (h : List Entry) (number : ℕ) (frame : List ℕ) (heard : Heard) (w : WindowName) → greatest_counter h w.eui w.session ≡ Some w.fcnt → last_round h w ≤ w.round →
    with_round w.session w.round (device_record net h w.eui) ≡ device_record net (h ++ entry_of number (call.Uplink frame heard) (reply.Again w) ∷ []) w.eui
uplink_again net h number frame heard w counter most =
    let e : Entry = entry_of number (call.Uplink frame heard) (reply.Again w) in
    let o : Opening = record { window = w; frame = frame; heard = heard } in
    let joins : acceptances (h ++ e ∷ []) w.eui ≡ acceptances h w.eui = acceptances-push h e w.eui ∙ append-nil (acceptances h w.eui) in
    let os : openings (h ++ e ∷ []) w.eui ≡ openings h w.eui = openings-push h e w.eui ∙ append-nil (openings h w.eui) in
    let cs : closings (h ++ e ∷ []) w.eui ≡ closings h w.eui = closings-push h e w.eui ∙ append-nil (closings h w.eui) in
    let tickets = tickets_stay h e w.eui (record { asks = tt; ends = tt; copies = tt }) in
    let here : session_round (h ++ e ∷ []) w.eui w.session ≡ w.round = session_round-new h e o refl (ap (λ (xs : List Opening). counter_by xs w.session) os ∙ counter) most in
    let others : (n : ℕ) → (w.session == n) ≡ false → session_round (h ++ e ∷ []) w.eui n ≡ session_round h w.eui n =
    λ n differs. session_round-stays h e w.eui n (ap (λ (xs : List Opening). counter_by xs n) os) (rw (differs, and-false)) in
    let sessions = again_sessions (acceptances h w.eui) (openings h w.eui) (session_round h w.eui) (session_round (h ++ e ∷ []) w.eui) (closings h w.eui) w.session w.round here others in
    cc (record_said net h w.eui, record_said net (h ++ e ∷ []) w.eui)

-- ---- an acknowledgement

acked_sessions : (joins : List Acceptance) (os : List Opening) (rs : ℕ → ℕ) (cs : List Closing) (w : WindowName) (n : ℕ) →
    option_and_then session_ack (find (λ s. s.number == w.session) (sessions_by joins os rs cs)) ≡ Some n →
    change_session w.session session_after_ack (sessions_by joins os rs cs) ≡ sessions_by joins os rs (cs ++ (record { window = w; ack = Some n }) ∷ [])
acked_sessions joins os rs cs w n is =
    let c : Closing = record { window = w; ack = Some n } in
    let ns : List ℕ = first_and_other (active_by os) (newest_by joins) in
    let found = found_by_number (session_by joins os rs cs) (session_by-numbered joins os rs cs) w.session ns in
    let now : session_by joins os rs (cs ++ c ∷ []) w.session ≡ option_map session_after_ack (session_by joins os rs cs w.session) = grind (arith, nat_tests, ack-push cs c w.session, found, is) in
    sym (changed_in session_after_ack (session_by joins os rs cs) (session_by joins os rs (cs ++ c ∷ [])) w.session (session_by-numbered joins os rs cs) apart_from now ns (live-apart (active_by os) (newest_by joins)))
  where
    apart_from : (m : ℕ) → (m == w.session) ≡ false → session_by joins os rs cs m ≡ session_by joins os rs (cs ++ (record { window = w; ack = Some n }) ∷ []) m
    apart_from m differs = grind (arith, nat_tests, ack-push cs (record { window = w; ack = Some n }) m)

pub window_closed : (net : Network) (h : List Entry) (number : ℕ) (w : WindowName) (ack : ℕ) → ack_in (device_record net h w.eui) w.session ≡ Some ack →
    with_ack w.session (device_record net h w.eui) ≡ device_record net (h ++ entry_of number (call.Close w) (reply.Closed w (Some ack)) ∷ []) w.eui
window_closed net h number w ack is =
    let e : Entry = entry_of number (call.Close w) (reply.Closed w (Some ack)) in
    let c : Closing = record { window = w; ack = Some ack } in
    let joins : acceptances (h ++ e ∷ []) w.eui ≡ acceptances h w.eui = acceptances-push h e w.eui ∙ append-nil (acceptances h w.eui) in
    let os : openings (h ++ e ∷ []) w.eui ≡ openings h w.eui = openings-push h e w.eui ∙ append-nil (openings h w.eui) in
    let cs : closings (h ++ e ∷ []) w.eui ≡ closings h w.eui ++ c ∷ [] = closings-push h e w.eui ∙ one_added (λ (x : Closing). same_device x.window.eui w.eui) (closings h w.eui) c (same_device-refl w.eui) in
    let rs : session_round (h ++ e ∷ []) w.eui ≡ session_round h w.eui = rounds-stay h e w.eui os tt in
    let tickets = tickets_stay h e w.eui (record { asks = tt; ends = tt; copies = tt }) in
    let sessions = acked_sessions (acceptances h w.eui) (openings h w.eui) (session_round h w.eui) (closings h w.eui) w ack (rw (sessions_said net h w.eui) at is) in
    cc (record_said net h w.eui, record_said net (h ++ e ∷ []) w.eui)

-- a property of each number of a list is one of a number that is there
at_number : (P : ℕ → Type 0) (s : ℕ) (xs : List ℕ) → list_any (λ n. n == s) xs ≡ true → AllByRecursion P xs → P s
at_number P s [] is all = absurd (cc is)
at_number P s (x ∷ xs) is all = grind (arith, nat_tests, at_number P s xs)

pub ack_of_live : (net : Network) (h : List Entry) → IsLegal net h → (eui : DevEui) (s : ℕ) → cond (is_live h eui s) (next_ack_number h eui s) None ≡ ack_in (device_record net h eui) s
ack_of_live net h legal eui s =
    let found = found_by_number (session_by (acceptances h eui) (openings h eui) (session_round h eui) (closings h eui)) (session_by-numbered _ _ _ _) s (live h eui) in
    let keyed = λ (lives : is_live h eui s ≡ true). at_number (λ n. IsSome (session_join h eui n)) s (live h eui) lives ((sessions_have_joins net h legal).of_live eui) in
    grind (arith, sessions_said net h eui, found, keyed)

ack_numbers : (net : Network) (h : List Entry) → IsLegal net h → (o : Opening) → ack_number h o ≡ cond (is_confirmed o.frame) (ack_in (device_record net h o.window.eui) o.window.session) None
ack_numbers net h legal o = grind (arith, ack_of_live net h legal o.window.eui o.window.session)

-- the next round of a counter of a live session
pub round_of_live : (net : Network) (h : List Entry) → IsLegal net h → (f : Fit) → is_live h f.eui f.session ≡ true → next_round_in (device_record net h f.eui) f.session f.counter ≡ next_round h f
round_of_live net h legal f lives =
    let found = found_by_number (session_by (acceptances h f.eui) (openings h f.eui) (session_round h f.eui) (closings h f.eui)) (session_by-numbered _ _ _ _) f.session (live h f.eui) in
    let keyed = at_number (λ n. IsSome (session_join h f.eui n)) f.session (live h f.eui) lives ((sessions_have_joins net h legal).of_live f.eui) in
    grind (arith, sessions_said net h f.eui, found, keyed, next_round-by h f (greatest_counter h f.eui f.session))

pub closings_agree : (net : Network) (h : List Entry) → ClosingsAgree net h
closings_agree net h = record {
  numbers = λ legal o. ack_numbers net h legal o;
  records = λ number w ack is. window_closed net h number w ack is;
}

pub uplinks_agree : (net : Network) (h : List Entry) → UplinksAgree net h
unfolding device_record
uplinks_agree net h = record {
  fits = λ recover frame eui. fits_in recover h frame eui (live h eui);
  records = λ legal number frame heard w first new. uplink_opened net h legal number frame heard w first new;
  rounds = λ legal f lives. round_of_live net h legal f lives;
  again = λ number frame heard w counter most. uplink_again net h number frame heard w counter most;
}
