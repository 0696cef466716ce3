-- What a history tells is what it says.
use Rattle.std.proofs.Common.{◌≡◌, ℕ, ◌+◌, ◌==◌, Bool, true, false, not, cond, ◌||◌, List, [], ◌∷◌, ◌++◌, filter, filter_map, find, map, unwrap_or, Option, None, Some, option_map, option_to_list, refl, sym, ap, ◌∙◌, inl, inr}
use Rattle.std.specs.List.{list_any, cons_option}
use Rattle.std.specs.Option.{option_map_or}
use Rattle.ns_types.specs.declared.identity.DevEui.{DevEui}
use Rattle.ns_types.specs.declared.identity.WindowName.{WindowName}
use Rattle.ns_types.specs.declared.heard.Heard.{Heard}
use Rattle.ns_types.specs.declared.ticket.Ticket.{Ticket}
use Rattle.ns_types.specs.Identity.{same_uplink, same_window}
use Rattle.ns_types.specs.Ticket.{nonce}
use Rattle.ns_roster.specs.Network.{Network}
use Rattle.ns_calls.specs.declared.call.Call.{Call}
use Rattle.ns_calls.specs.declared.call.Call.TheVariants as call
use Rattle.ns_calls.specs.declared.call.Reply.{Reply}
use Rattle.ns_calls.specs.declared.call.Reply.TheVariants as reply
use Rattle.ns_calls.specs.declared.call.Entry.{Entry}
use Rattle.ns_calls.specs.Laws.{hands_out_uplink}
use Rattle.ns_calls.specs.Headline.{hands_out_downlink}
use Rattle.ns_calls.specs.Queries.{last, greater, maximum, from_last}
use Rattle.ns_calls.specs.Entries as entries
use Rattle.ns_calls.specs.Entries.{Acceptance, Opening, Closing, Nothing, accepted, first_opened, opened, closed, same_device, acceptances, openings, still_open, open_windows}
use Rattle.ns_calls.specs.History.{asked, ended, copied, join_copied, same_ticket, asks_for, closings, last_nonce, first_and_other, active_session, newest_session, session_join, greatest_counter, first_window, last_round, window_copies, open_tickets, ticket_copies}
use Rattle.ns_calls.proofs.Says.{acceptance_in, opening_in, window_in, closing_in, asking_in, ending_in, window_copy_in, ticket_copy_in, is_ticket}
use Rattle.ns_calls.proofs.LocalLemmas.{bool_tells, All-each, from_last-own}
use Rattle.ns_kept.proofs.Alike.{Alike}
use Rattle.ns_recorded.specs.Recorded.{matters, said}

abbrev Said : Type 0
Said = Call × Reply

-- ---- what is found among entries, where it is found in none of those that are left out

told : {Y : Type 0} (f : Call → Reply → Option Y) → ((c : Call) (r : Reply) → matters r ≡ false → f c r ≡ None) → (h : List Entry) → filter_map (λ e. f e.call e.reply) h ≡ filter_map (λ (s : Said). f s.0 s.1) (said h)
told f none [] = refl
told {Y} f none (e ∷ h) =
    let part = λ (b : Bool). filter_map (λ (s : Said). f s.0 s.1) (cond {A = List Said} b ((e.call, e.reply) ∷ said h) (said h)) in
    let ih = told f none h in
    elim (bool_tells (matters e.reply)) [
      | inl inside ↦ ap (λ (ys : List Y). cons_option (f e.call e.reply) ys) ih ∙ sym (ap part inside)
      | inr outside ↦ ap (λ (o : Option Y). cons_option o (filter_map (λ e. f e.call e.reply) h)) (none e.call e.reply outside) ∙ (ih ∙ sym (ap part outside))
    ]

any_told : (k : Call → Reply → Bool) → ((c : Call) (r : Reply) → matters r ≡ false → k c r ≡ false) → (h : List Entry) → list_any (λ e. k e.call e.reply) h ≡ list_any (λ (s : Said). k s.0 s.1) (said h)
any_told k none [] = refl
any_told k none (e ∷ h) =
    let part = λ (b : Bool). list_any (λ (s : Said). k s.0 s.1) (cond {A = List Said} b ((e.call, e.reply) ∷ said h) (said h)) in
    let ih = any_told k none h in
    elim (bool_tells (matters e.reply)) [
      | inl inside ↦ ap (λ (b : Bool). k e.call e.reply || b) ih ∙ sym (ap part inside)
      | inr outside ↦ ap (λ (b : Bool). b || list_any (λ (x : Entry). k x.call x.reply) h) (none e.call e.reply outside) ∙ (ih ∙ sym (ap part outside))
    ]

kept_same : {X : Type 0} (a b : X → Bool) → ((x : X) → a x ≡ b x) → (o : Option X) → filter a (option_to_list o) ≡ filter b (option_to_list o)
kept_same a b same None = refl
kept_same {X} a b same (Some x) = ap (λ (c : Bool). cond {A = List X} c (x ∷ []) []) (same x)

open_told : {X : Type 0} (f : Call → Reply → Option X) (k : X → Call → Reply → Bool) → ((c : Call) (r : Reply) → matters r ≡ false → f c r ≡ None) → ((x : X) (c : Call) (r : Reply) → matters r ≡ false → k x c r ≡ false) → (h : List Entry) →
    still_open (λ e. f e.call e.reply) (λ x e. k x e.call e.reply) h ≡ still_open (λ (s : Said). f s.0 s.1) (λ x (s : Said). k x s.0 s.1) (said h)
open_told f k none never [] = refl
open_told {X} f k none never (e ∷ h) =
    let part = λ (b : Bool). still_open (λ (s : Said). f s.0 s.1) (λ x (s : Said). k x s.0 s.1) (cond {A = List Said} b ((e.call, e.reply) ∷ said h) (said h)) in
    let stays = λ (x : X). not (list_any (λ (y : Entry). k x y.call y.reply) h) in
    let stays_said = λ (x : X). not (list_any (λ (s : Said). k x s.0 s.1) (said h)) in
    let here = filter stays (option_to_list (f e.call e.reply)) in
    let rest = still_open (λ (y : Entry). f y.call y.reply) (λ x (y : Entry). k x y.call y.reply) h in
    let rest_said = still_open (λ (s : Said). f s.0 s.1) (λ x (s : Said). k x s.0 s.1) (said h) in
    let ih = open_told f k none never h in
    elim (bool_tells (matters e.reply)) [
      | inl inside ↦
          ap (λ (ys : List X). here ++ ys) ih
          ∙ (ap (λ (ys : List X). ys ++ rest_said) (kept_same stays stays_said (λ x. ap not (any_told (k x) (never x) h)) (f e.call e.reply))
          ∙ sym (ap part inside))
      | inr outside ↦
          ap (λ (o : Option X). filter stays (option_to_list o) ++ rest) (none e.call e.reply outside)
          ∙ (ih ∙ sym (ap part outside))
    ]

list_any-pairs : (k : Call → Reply → Bool) (h : List Entry) → list_any (λ (s : Said). k s.0 s.1) (map (λ e. (e.call, e.reply)) h) ≡ list_any (λ e. k e.call e.reply) h
list_any-pairs k [] = refl
list_any-pairs k (e ∷ h) = ap (λ (b : Bool). k e.call e.reply || b) (list_any-pairs k h)

pairs_cases : (e : Entry) (h tail : List Entry) (any this : Bool) →
    cond {A = List Said} any (map (λ e. (e.call, e.reply)) tail) (cond this ((e.call, e.reply) ∷ map (λ e. (e.call, e.reply)) h) []) ≡ map (λ e. (e.call, e.reply)) (cond any tail (cond this (e ∷ h) []))
pairs_cases e h tail true this = refl
pairs_cases e h tail false true = refl
pairs_cases e h tail false false = refl

from_last-pairs : (k : Call → Reply → Bool) (h : List Entry) → from_last (λ (s : Said). k s.0 s.1) (map (λ e. (e.call, e.reply)) h) ≡ map (λ e. (e.call, e.reply)) (from_last (λ e. k e.call e.reply) h)
from_last-pairs k [] = refl
from_last-pairs k (e ∷ h) =
    let pairs = map (λ (x : Entry). (x.call, x.reply)) h in
    let test = λ (s : Said). k s.0 s.1 in
    let this = k e.call e.reply in
    ap (λ (b : Bool). cond {A = List Said} b (from_last test pairs) (cond this ((e.call, e.reply) ∷ pairs) [])) (list_any-pairs k h)
    ∙ (ap (λ (ys : List Said). cond {A = List Said} (list_any (λ (x : Entry). k x.call x.reply) h) ys (cond this ((e.call, e.reply) ∷ pairs) [])) (from_last-pairs k h)
    ∙ pairs_cases e h (from_last (λ (x : Entry). k x.call x.reply) h) (list_any (λ (x : Entry). k x.call x.reply) h) this)

last_told : (k : Call → Reply → Bool) → ((c : Call) (r : Reply) → matters r ≡ false → k c r ≡ false) → (h : List Entry) → said (from_last (λ e. k e.call e.reply) h) ≡ from_last (λ (s : Said). k s.0 s.1) (said h)
last_told k none h =
    ap (filter (λ (s : Said). matters s.1)) (sym (from_last-pairs k h))
    ∙ sym (from_last-own (λ (s : Said). matters s.1) (λ (s : Said). k s.0 s.1) (λ s is. none s.0 s.1 is) (map (λ e. (e.call, e.reply)) h))

-- ---- entries that are left out say nothing

nothing-said : (c : Call) (r : Reply) → matters r ≡ false → entries.said c r ≡ Nothing
nothing-said (call.Uplink frame heard) (reply.Opened w) is = absurd (cc is)
nothing-said (call.Uplink frame heard) (reply.Again w) is = absurd (cc is)
nothing-said (call.Uplink frame heard) (reply.Copied w place) is = absurd (cc is)
nothing-said (call.Join ticket heard) (reply.Ask asked) is = absurd (cc is)
nothing-said (call.Join ticket heard) (reply.JoinCopied place) is = absurd (cc is)
nothing-said (call.JoinReply ticket o) (reply.Accepted eui session addr) is = absurd (cc is)
nothing-said (call.JoinReply ticket o) reply.JoinRefused is = absurd (cc is)
nothing-said (call.JoinReply ticket o) (reply.JoinStale greatest) is = absurd (cc is)
nothing-said (call.Close w) (reply.Closed closed ack) is = absurd (cc is)
nothing-said _ _ is = refl

none-told : {Z : Type 0} (part : entries.Said → Z) (none : Z) → part Nothing ≡ none → (c : Call) (r : Reply) → matters r ≡ false → part (entries.said c r) ≡ none
none-told part none same c r is = ap part (nothing-said c r is) ∙ same

pub no_uplink : (r : Reply) → matters r ≡ false → hands_out_uplink r ≡ false
no_uplink (reply.Closed window ack) is = absurd (cc is)
no_uplink _ is = refl

pub no_downlink : (r : Reply) → matters r ≡ false → hands_out_downlink r ≡ false
no_downlink (reply.Closed window ack) is = absurd (cc is)
no_downlink (reply.Accepted eui session addr) is = absurd (cc is)
no_downlink _ is = refl

-- ---- histories that say the same

told_same : {Y : Type 0} (f : Call → Reply → Option Y) → ((c : Call) (r : Reply) → matters r ≡ false → f c r ≡ None) → (g h : List Entry) → said g ≡ said h → filter_map (λ e. f e.call e.reply) g ≡ filter_map (λ e. f e.call e.reply) h
told_same f none g h same = told f none g ∙ (ap (filter_map (λ (s : Said). f s.0 s.1)) same ∙ sym (told f none h))

acceptances_same : (g h : List Entry) → said g ≡ said h → (eui : DevEui) → acceptances g eui ≡ acceptances h eui
acceptances_same g h same eui = ap (filter (λ (a : Acceptance). same_device a.eui eui)) (told_same acceptance_in (none-told accepted None refl) g h same)

openings_same : (g h : List Entry) → said g ≡ said h → (eui : DevEui) → openings g eui ≡ openings h eui
openings_same g h same eui = ap (filter (λ (o : Opening). same_device o.window.eui eui)) (told_same opening_in (none-told first_opened None refl) g h same)

closings_same : (g h : List Entry) → said g ≡ said h → (eui : DevEui) → closings g eui ≡ closings h eui
closings_same g h same eui = ap (filter (λ (c : Closing). same_device c.window.eui eui)) (told_same closing_in (none-told closed None refl) g h same)

windows_same : (g h : List Entry) → said g ≡ said h → open_windows g ≡ open_windows h
windows_same g h same =
    let k = λ (o : Opening) (c : Call) (r : Reply). option_map_or (λ (x : Closing). same_window x.window o.window) (closing_in c r) false in
    open_told window_in k (none-told opened None refl) (λ o. none-told (λ s. option_map_or (λ (x : Closing). same_window x.window o.window) (closed s) false) false refl) g
    ∙ (ap (still_open (λ (s : Said). window_in s.0 s.1) (λ o (s : Said). k o s.0 s.1)) same
    ∙ sym (open_told window_in k (none-told opened None refl) (λ o. none-told (λ s. option_map_or (λ (x : Closing). same_window x.window o.window) (closed s) false) false refl) h))

tickets_same : (g h : List Entry) → said g ≡ said h → open_tickets g ≡ open_tickets h
tickets_same g h same =
    let k = λ (t : Ticket) (c : Call) (r : Reply). is_ticket t (ending_in c r) in
    open_told asking_in k (none-told asked None refl) (λ u. none-told (λ s. is_ticket u (ended s)) false refl) g
    ∙ (ap (still_open (λ (s : Said). asking_in s.0 s.1) (λ t (s : Said). k t s.0 s.1)) same
    ∙ sym (open_told asking_in k (none-told asked None refl) (λ u. none-told (λ s. is_ticket u (ended s)) false refl) h))

copies_same : (g h : List Entry) → said g ≡ said h → (w : WindowName) → window_copies g w ≡ window_copies h w
copies_same g h same w = ap (λ (cs : List (WindowName × Heard)). map (λ c. c.1) (filter (λ c. same_window c.0 w) cs)) (told_same window_copy_in (none-told copied None refl) g h same)

ticket_copies_same : (g h : List Entry) → said g ≡ said h → (t : Ticket) → ticket_copies g t ≡ ticket_copies h t
ticket_copies_same g h same t =
    let k = λ (c : Call) (r : Reply). is_ticket t (asking_in c r) in
    let since = last_told k (none-told (λ s. is_ticket t (asked s)) false refl) g ∙ (ap (from_last (λ (s : Said). k s.0 s.1)) same ∙ sym (last_told k (none-told (λ s. is_ticket t (asked s)) false refl) h)) in
    ap (λ (cs : List (Ticket × Heard)). map (λ c. c.1) (filter (λ c. same_ticket t c.0) cs))
    (told_same ticket_copy_in (none-told join_copied None refl) (from_last (asks_for t) g) (from_last (asks_for t) h) since)

join_same : (g h : List Entry) → said g ≡ said h → (eui : DevEui) (session : ℕ) → session_join g eui session ≡ session_join h eui session
join_same g h same eui session = ap (λ (xs : List Acceptance). option_map (λ a. a.join_ans) (find (λ a. a.session == session) xs)) (acceptances_same g h same eui)

counter_same : (g h : List Entry) → said g ≡ said h → (eui : DevEui) (session : ℕ) → greatest_counter g eui session ≡ greatest_counter h eui session
counter_same g h same eui session = ap (λ (os : List Opening). maximum (map (λ o. o.window.fcnt) (filter (λ o. o.window.session == session) os))) (openings_same g h same eui)

last_round_same : (g h : List Entry) → said g ≡ said h → (w : WindowName) → last_round g w ≡ last_round h w
last_round_same g h same w = ap (λ (os : List Opening). unwrap_or (maximum (map (λ o. o.window.round) (filter (λ o. same_uplink o.window w) os))) 0) (told_same window_in (none-told opened None refl) g h same)

or_same : (a b : ℕ → ℕ) → ((n : ℕ) → a n ≡ b n) → (o : Option ℕ) → option_map_or a o 0 ≡ option_map_or b o 0
or_same a b each None = refl
or_same a b each (Some n) = each n

pub alike : (net : Network) (g h : List Entry) → said g ≡ said h → Alike net g h
alike net g h same = record {
  windows = windows_same g h same;
  copies = All-each (λ (o : Opening). window_copies g o.window ≡ window_copies h o.window) (λ o. copies_same g h same o.window) (open_windows h);
  window_joins = All-each (λ (o : Opening). session_join g o.window.eui o.window.session ≡ session_join h o.window.eui o.window.session) (λ o. join_same g h same o.window.eui o.window.session) (open_windows h);
  tickets = tickets_same g h same;
  copies_of_tickets = λ t is. ticket_copies_same g h same t;
  nonces = λ eui. ap (λ (xs : List Acceptance). greater (last_nonce net eui) (maximum (map (λ a. (nonce a.ticket).0) xs))) (acceptances_same g h same eui);
  next = λ eui. ap (λ (xs : List Acceptance). unwrap_or (maximum (map (λ a. a.session) xs)) 0 + 1) (acceptances_same g h same eui);
  lives = λ eui. ap (λ (os : List Opening). first_and_other (option_map (λ o. o.window.session) (last os)) (newest_session g eui)) (openings_same g h same eui) ∙ ap (λ (xs : List Acceptance). first_and_other (active_session h eui) (option_map (λ a. a.session) (last xs))) (acceptances_same g h same eui);
  joins = λ eui session is. join_same g h same eui session;
  counters = λ eui session is. counter_same g h same eui session;
  rounds = λ eui session is. ap (λ (o : Option ℕ). option_map_or (λ n. last_round g (first_window eui session n)) o 0) (counter_same g h same eui session) ∙ or_same (λ n. last_round g (first_window eui session n)) (λ n. last_round h (first_window eui session n)) (λ n. last_round_same g h same (first_window eui session n)) (greatest_counter h eui session);
  acks = λ eui session is. ap (λ (cs : List Closing). maximum (filter_map (λ c. c.ack) (filter (λ c. c.window.session == session) cs))) (closings_same g h same eui);
}
