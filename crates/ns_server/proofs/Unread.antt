-- What goes out at an entry, searched in what is kept of a history as it stands.
use Rattle.std.proofs.Common.{◌≡◌, inl, inr, ℕ, zero, zero-add, suc, ◌+◌, ◌≤◌, ◌==◌, Bool, true, false, not, cond, List, [], ◌∷◌, ◌++◌, length, take, drop, filter, filter_map, find, count_by, Option, Some, None, option_map, option_to_list, refl, sym, ap, subst, ◌∙◌, arith, take-append-drop, length-append, length-drop, append_assoc}
use Rattle.std.specs.Prelude.{slice_get, is_some}
use Rattle.std.specs.List.{list_any, cons_option}
use Rattle.std.specs.Option.{option_and_then}
use Rattle.std.proofs.lemmas.Bool.{cond_both, cond-true, or_cases, or_left, or_right}
use Rattle.std.proofs.Math.Seq.{take-append-add, drop-append_seam}
use Rattle.std.proofs.lemmas.List.{length-take-le, take-take, drop-take}
use Rattle.std.proofs.lemmas.List.Sums.{length-filter}
use Rattle.std.proofs.lemmas.List.Filters.{sum_by-filter_both}
use Rattle.std.proofs.lemmas.List.Folds.{list_any-append}
use Rattle.ns_types.specs.declared.identity.DevEui.{DevEui}
use Rattle.ns_types.specs.declared.identity.WindowName.{WindowName}
use Rattle.ns_types.specs.Cases.{first_case, when}
use Rattle.ns_types.specs.Ticket.{dev_eui}
use Rattle.ns_types.specs.declared.heard.Heard.{Heard}
use Rattle.ns_types.specs.Identity.{same_window, is_first}
use Rattle.ns_roster.specs.Network.{Network}
use Rattle.ns_calls.specs.declared.call.Outcome.TheVariants as outcome
use Rattle.ns_calls.specs.declared.call.Call.{Call}
use Rattle.ns_calls.specs.declared.call.Call.TheVariants as call
use Rattle.ns_calls.specs.declared.call.Reply.{Reply}
use Rattle.ns_calls.specs.declared.call.Reply.TheVariants as reply
use Rattle.ns_calls.specs.declared.call.Entry.{Entry}
use Rattle.ns_calls.specs.declared.answer.Answer.{Answer}
use Rattle.ns_calls.specs.Entries.{Acceptance, Opening, closes, open_windows, most_copies}
use Rattle.ns_calls.proofs.Says.{window_in}
use Rattle.ns_calls.specs.History.{open_window, session_join, next_session, window_copies, ticket_copies, is_ticket_open}
use Rattle.ns_calls.specs.Reply.{reply_to, ack_number, address}
use Rattle.ns_calls.specs.Out.{first_uplink_of, uplink_out, ack_downlink, accept_at, downlink_out}
use Rattle.ns_calls.specs.Merges.{out}
use Rattle.ns_types.specs.Heard.{best}
use Rattle.ns_calls.proofs.PartLemmas.{uplink_of-same, ack_downlink-same}
use Rattle.ns_calls.proofs.Induction.{legal-front}
use Rattle.ns_calls.specs.Legal.{IsLegal}
use Rattle.ns_calls.specs.Laws.{opening_count, open_count, WindowsOpenOnce}
use Rattle.ns_calls.specs.Headline.{LimitsHold, nonce_at_or_above}
use Rattle.ns_calls.proofs.LocalLemmas.{bool_tells}
use Rattle.ns_calls.proofs.Lists.{count-append, count-cons, count-found}
use Rattle.ns_kept.specs.Kept.{Remains, whole, reading, is_kept, filter_before, keep, with_closings, closing_of, counts}
use Rattle.ns_kept.specs.Left.{Leaves, followed_by, first_entries}
use Rattle.ns_kept.proofs.Alike.{out-alike}
use Rattle.ns_kept.proofs.Law.{leaves-alike, leaves-answer}
use Rattle.ns_kept.proofs.Within.{Within, Adds, Adds-says, Adds-filter}
use Rattle.ns_kept.proofs.Asked.{window_copies-adds}
use Rattle.ns_sent.specs.Found.{AcceptFits, CopiesFit}
use Rattle.ns_server.proofs.Checking.{stands_before}
use Rattle.ns_kept.proofs.ReadLemmas.{acceptances-with_closings, window_copies-with_closings, ticket_copies-with_closings}

-- ---- what is open as it reads is open as it stands

any_more : (mark : ℕ) (names : List WindowName) (test : Entry → Bool) (es : List Entry) → list_any test es ≡ true → list_any test (with_closings mark names es) ≡ true
any_more mark names test [] is = absurd (cc is)
any_more mark names test (e ∷ es) is =
    let cs = closing_of mark names e.number (window_in e.call e.reply) in
    let rest = with_closings mark names es in
    elim (or_cases (test e) (list_any test es) is) [
      | inl here ↦ or_left (test e) (list_any test (cs ++ rest)) here
      | inr later ↦ or_right (test e) _ (list_any-append test cs rest ∙ or_right (list_any test cs) _ (any_more mark names test es later))
    ]

-- elements of the other list, in order
abbrev Among : List Opening → List Opening → Type 0
Among xs ys = Within (λ x after. false) xs ys

opened_by : Option Opening → List Entry → List Opening
opened_by o after = filter (λ (p : Opening). not (list_any (closes p.window) after)) (option_to_list o)

among_step : (o : Option Opening) (es after : List Entry) → ((w : WindowName) → list_any (closes w) es ≡ true → list_any (closes w) after ≡ true) → (xs ys : List Opening) → Among xs ys → Among (opened_by o after ++ xs) (opened_by o es ++ ys)
unfolding opened_by
among_step None es after more xs ys all = all
among_step (Some o) es after more xs ys all = step (list_any (closes o.window) es) (list_any (closes o.window) after) (more o.window)
  where
    step : (b now : Bool) → (b ≡ true → now ≡ true) → Among (cond (not now) (o ∷ []) [] ++ xs) (cond (not b) (o ∷ []) [] ++ ys)
    step true true so = all
    step true false so = absurd (cc (so refl))
    step false true so = inr (refl, all)
    step false false so = inl (xs, refl, all)

closing_opens : (mark : ℕ) (names : List WindowName) (number : ℕ) (o : Option Opening) (rest : List Entry) → open_windows (closing_of mark names number o ++ rest) ≡ open_windows rest
closing_opens mark names number None rest = refl
closing_opens mark names number (Some o) rest =
    cond_both (counts mark names number o.window) _ _ (λ (es : List Entry). open_windows (es ++ rest) ≡ open_windows rest) (λ _. refl) (λ _. refl)

opened_among : (mark : ℕ) (names : List WindowName) (es : List Entry) → Among (open_windows (with_closings mark names es)) (open_windows es)
unfolding opened_by
opened_among mark names [] = refl
opened_among mark names (e ∷ es) =
    let rest : List Entry = with_closings mark names es in
    let cs : List Entry = closing_of mark names e.number (window_in e.call e.reply) in
    let same : open_windows (cs ++ rest) ≡ open_windows rest = closing_opens mark names e.number (window_in e.call e.reply) rest in
    subst (λ os. Among (opened_by (window_in e.call e.reply) (cs ++ rest) ++ os) (opened_by (window_in e.call e.reply) es ++ open_windows es)) (sym same)
    (among_step (window_in e.call e.reply) es (cs ++ rest)
    (λ w closed. list_any-append (closes w) cs rest ∙ or_right (list_any (closes w) cs) (list_any (closes w) rest) (any_more mark names (closes w) es closed))
    (open_windows rest) (open_windows es) (opened_among mark names es))

-- what is found in the one is found in the other, where it has no two that pass
found_among : (test : Opening → Bool) (xs ys : List Opening) → Among xs ys → count_by test ys ≤ 1 → (o : Opening) → find test xs ≡ Some o → find test ys ≡ Some o
found_among test xs [] all once o found = absurd (cc (sym (ap (find test) all) ∙ found))
found_among test xs (y ∷ ys) (inl kept) once o found =
    let here : find test (y ∷ kept.0) ≡ Some o = sym (ap (find test) kept.1) ∙ found in
    let sum = count-cons test y ys in
    elim (bool_tells (test y)) [
      | inl passes ↦ rw passes (rw passes at here)
      | inr fails ↦ rw fails (found_among test kept.0 ys kept.2 (omega (arith, once, sum)) o (rw fails at here))
    ]
found_among test xs (y ∷ ys) (inr gone) once o found =
    let sum = count-cons test y ys in
    let later = found_among test xs ys gone.1 (omega (arith, once, sum)) o found in
    elim (bool_tells (test y)) [
      | inr fails ↦ rw fails later
      | inl passes ↦ absurd (omega (arith, once, sum, cond-true {A = ℕ} (test y) 1 0 passes, count-found test ys (ap is_some later)))
    ]

-- no more windows of a name are open than were opened
front_of : (o : Option Opening) (os : List Opening) → cons_option o os ≡ option_to_list o ++ os
front_of None os = refl
front_of (Some o) os = refl

open_opened : (es : List Entry) (w : WindowName) → open_count es w ≤ opening_count es w
open_opened [] w = omega arith
open_opened (e ∷ es) w =
    let named = λ (o : Opening). same_window o.window w in
    let stays = λ (o : Opening). not (list_any (closes o.window) es) in
    let here : List Opening = option_to_list (window_in e.call e.reply) in
    let fewer = sum_by-filter_both stays (λ o. not (stays o)) (λ _. refl) (λ o. cond (named o) 1 0) here in
    let opens : open_count (e ∷ es) w ≡ count_by named (filter stays here) + open_count es w = count-append named (filter stays here) (open_windows es) in
    let opened = filter_map (λ (x : Entry). window_in x.call x.reply) es in
    let all : opening_count (e ∷ es) w ≡ count_by named here + opening_count es w =
    ap (count_by named) (front_of (window_in e.call e.reply) opened) ∙ count-append named here opened in
    omega (arith, open_opened es w, fewer, opens, all)

abbrev pub kept_of : List Entry → ℕ → List Entry
kept_of h m = (keep m (whole (take m h))).entries

adds_append : {Y : Type 0} (L : List Entry → List Y) → Adds L → (xs ys : List Entry) → L (xs ++ ys) ≡ L xs ++ L ys
adds_append L adds [] ys = sym (ap (λ l. l ++ L ys) adds.none)
adds_append L adds (x ∷ xs) ys =
    adds.more x (xs ++ ys) ∙ (ap (λ l. L (x ∷ []) ++ l) (adds_append L adds xs ys) ∙ (sym (append_assoc (L (x ∷ [])) (L xs) (L ys)) ∙ ap (λ l. l ++ L ys) (sym (adds.more x xs))))

pub kept_fewer : {Y : Type 0} (L : List Entry → List Y) → Adds L → (test : Entry → List Entry → Bool) (xs : List Entry) → length (L (filter_before test xs)) ≤ length (L xs)
kept_fewer L adds test [] = omega arith
kept_fewer L adds test (x ∷ xs) =
    let parts = λ (es : List Entry). ap length (adds.more x es) ∙ length-append (L (x ∷ [])) (L es) in
    let kept = filter_before test xs in
    let fewer = kept_fewer L adds test xs in
    cond_both (test x xs) (x ∷ kept) kept (λ es. length (L es) ≤ length (L (x ∷ xs)))
    (λ _. omega (arith, fewer, parts kept, parts xs)) (λ _. omega (arith, fewer, parts xs))

-- what a history says, entry by entry, is said no more often in what is left
left_fewer : {Y : Type 0} (L : List Entry → List Y) → Adds L → (net : Network) (h : List Entry) (k : Remains) → Leaves net h k → length (L k.entries) ≤ length (L h)
left_fewer L adds net h k leaves =
    let f : List Entry = take k.mark h in
    let rest : List Entry = drop k.mark h in
    let is : length (L k.entries) ≡ length (L (kept_of h k.mark)) + length (L rest) =
    ap (λ (l : Remains). length (L l.entries)) leaves.left ∙ (ap length (adds_append L adds (kept_of h k.mark) rest) ∙ length-append (L (kept_of h k.mark)) (L rest)) in
    let whole_is : length (L f) + length (L rest) ≡ length (L h) = sym (ap length (adds_append L adds f rest) ∙ length-append (L f) (L rest)) ∙ ap (λ (es : List Entry). length (L es)) (take-append-drop k.mark h) in
    omega (arith, is, whole_is, kept_fewer L adds (is_kept (reading (whole f))) f)

-- a name is opened no more often in what is left than in the history
left_opened : (net : Network) (h : List Entry) (k : Remains) → Leaves net h k → (w : WindowName) → opening_count k.entries w ≤ opening_count h w
left_opened net h k leaves w =
    let named = λ (o : Opening). same_window o.window w in
    let says = λ (x : Entry). window_in x.call x.reply in
    let fewer = left_fewer (λ es. filter named (filter_map says es)) (Adds-filter named (filter_map says) (Adds-says says)) net h k leaves in
    omega (arith, fewer, length-filter named (filter_map says k.entries), length-filter named (filter_map says h))

-- an open window is found in what is left as it stands
pub open_unread : (net : Network) (h : List Entry) (k : Remains) → Leaves net h k → WindowsOpenOnce h → (w : WindowName) (o : Opening) → find (λ (p : Opening). same_window p.window w) (open_windows (reading k)) ≡ Some o →
    find (λ (p : Opening). same_window p.window w) (open_windows k.entries) ≡ Some o
open_unread net h k leaves once w o found =
    let few : open_count k.entries w ≤ 1 = (let a = open_opened k.entries w in let b = left_opened net h k leaves w in let c = once.opens w in omega (arith, a, b, c)) in
    found_among (λ (p : Opening). same_window p.window w) (open_windows (reading k)) (open_windows k.entries) (opened_among k.mark k.windows k.entries) few o found

-- ---- what goes out

join_unread : (k : Remains) (eui : DevEui) (session : ℕ) → session_join k.entries eui session ≡ session_join (reading k) eui session
join_unread k eui session = ap (λ joins. option_map (λ (a : Acceptance). a.join_ans) (find (λ (a : Acceptance). a.session == session) joins)) (sym (acceptances-with_closings k.mark k.windows k.entries eui))

uplink_unread : (net : Network) (h : List Entry) (k : Remains) → Leaves net h k → WindowsOpenOnce h → (c : Call) (r : Reply) → r ≡ reply_to net (reading k) c → uplink_out k.entries c r ≡ uplink_out (reading k) c r
uplink_unread net h k leaves once (call.Close w) (reply.Closed v ack) is = step (open_window (reading k) w) refl is
  where
    step : (o : Option Opening) → open_window (reading k) w ≡ o → reply.Closed v ack ≡ first_case (option_map (λ (p : Opening). reply.Closed w (ack_number (reading k) p)) o ∷ []) reply.NoWindow →
        uplink_out k.entries (call.Close w) (reply.Closed v ack) ≡ uplink_out (reading k) (call.Close w) (reply.Closed v ack)
    step None found closed = absurd (cc closed)
    step (Some o) found closed =
        ap (option_and_then (first_uplink_of k.entries)) (open_unread net h k leaves once w o found)
        ∙ (ap (when (is_first o.window)) (uplink_of-same k.entries (reading k) o (join_unread k o.window.eui o.window.session) (sym (window_copies-with_closings k.mark k.windows k.entries o.window)))
        ∙ sym (ap (option_and_then (first_uplink_of (reading k))) found))
uplink_unread net h k leaves once _ _ is = refl

downlink_unread : (net : Network) (h : List Entry) (k : Remains) → Leaves net h k → WindowsOpenOnce h → (c : Call) (r : Reply) → r ≡ reply_to net (reading k) c → downlink_out net k.entries c r ≡ downlink_out net (reading k) c r
downlink_unread net h k leaves once (call.JoinReply t (outcome.Success join)) (reply.Accepted eui session addr) is =
    ap (λ hs. option_map (accept_at join) (best hs)) (sym (ticket_copies-with_closings k.mark k.windows k.entries t))
downlink_unread net h k leaves once (call.Close w) (reply.Closed v (Some n)) is = step (open_window (reading k) w) refl is
  where
    step : (o : Option Opening) → open_window (reading k) w ≡ o → reply.Closed v (Some n) ≡ first_case (option_map (λ (p : Opening). reply.Closed w (ack_number (reading k) p)) o ∷ []) reply.NoWindow →
        downlink_out net k.entries (call.Close w) (reply.Closed v (Some n)) ≡ downlink_out net (reading k) (call.Close w) (reply.Closed v (Some n))
    step None found closed = absurd (cc closed)
    step (Some o) found closed =
        ap (option_and_then (λ (p : Opening). ack_downlink net k.entries p n)) (open_unread net h k leaves once w o found)
        ∙ (ack_downlink-same net k.entries (reading k) o n (join_unread k o.window.eui o.window.session) (sym (window_copies-with_closings k.mark k.windows k.entries o.window))
        ∙ sym (ap (option_and_then (λ (p : Opening). ack_downlink net (reading k) p n)) found))
downlink_unread net h k leaves once _ _ is = refl

-- at an entry that is legal after a history, the same goes out after what that leaves, searched as it stands
pub out_unread : (net : Network) (h : List Entry) (k : Remains) → Leaves net h k → WindowsOpenOnce h → (e : Entry) → e.reply ≡ reply_to net h e.call → out net k.entries e ≡ out net h e
out_unread net h k leaves once e is =
    let read : e.reply ≡ reply_to net (reading k) e.call = is ∙ sym (ap (λ (a : Answer). a.reply) (leaves-answer net h k leaves e.call)) in
    let up = uplink_unread net h k leaves once e.call e.reply read in
    let down = downlink_unread net h k leaves once e.call e.reply read in
    (λ i. record { uplink = up i; downlink = down i }) ∙ out-alike net (reading k) h (leaves-alike net h k leaves) e is

-- ---- the first entries of what is left

pub get_drop : (m : ℕ) (xs : List Entry) (j : ℕ) → slice_get (drop m xs) j ≡ slice_get xs (m + j)
get_drop zero xs j = rw zero-add
get_drop (suc m) [] j = (let more : suc m + j ≡ suc (m + j) = omega arith in let none : List Entry = [] in sym (ap (slice_get none) more))
get_drop (suc m) (x ∷ xs) j = (let more : suc m + j ≡ suc (m + j) = omega arith in get_drop m xs j ∙ sym (ap (slice_get (x ∷ xs)) more))

get_behind : (xs ys : List Entry) (j : ℕ) → slice_get (xs ++ ys) (length xs + j) ≡ slice_get ys j
get_behind xs ys j = sym (get_drop (length xs) (xs ++ ys) j) ∙ ap (λ (l : List Entry). slice_get l j) (drop-append_seam xs ys)

-- the first entries of a history leave the first entries of what it leaves
pub leaves_first : (net : Network) (h : List Entry) (k : Remains) → Leaves net h k → (j : ℕ) → k.mark + j ≤ length h → Leaves net (take (k.mark + j) h) (first_entries (length (kept_of h k.mark) + j) k)
leaves_first net h k leaves j le =
    let m : ℕ = k.mark in
    let p : ℕ = m + j in
    let kept : List Entry = kept_of h m in
    let len : length (take p h) ≡ p = length-take-le p h le in
    record {
      legal = legal-front net (take p h) (drop p h) (subst (IsLegal net) (sym (take-append-drop p h)) leaves.legal);
      numbered = λ n e at. leaves.numbered n e (stands_before h p n e at);
      within = omega (arith, len);
      left = ap (first_entries (length kept + j)) leaves.left
          ∙ (ap (λ (es : List Entry). let x : Remains = record { mark = m; windows = (keep m (whole (take m h))).windows; entries = es } in x) (take-append-add kept (drop m h) j ∙ ap (λ (l : List Entry). kept ++ l) (sym (drop-take m j h)))
          ∙ ap (λ (g : List Entry). followed_by (keep m (whole g)) (drop m (take p h))) (sym (take-take m p h (omega arith))));
    }

-- the place of an entry from the mark on
pub place_left : (net : Network) (h : List Entry) (k : Remains) → Leaves net h k → (j : ℕ) → slice_get k.entries (length (kept_of h k.mark) + j) ≡ slice_get h (k.mark + j)
place_left net h k leaves j = ap (λ (l : Remains). slice_get l.entries (length (kept_of h k.mark) + j)) leaves.left ∙ (get_behind (kept_of h k.mark) (drop k.mark h) j ∙ get_drop k.mark h j)

pub length_left : (net : Network) (h : List Entry) (k : Remains) → Leaves net h k → length k.entries + k.mark ≡ length (kept_of h k.mark) + length h
length_left net h k leaves =
    omega (arith, ap (λ (l : Remains). length l.entries) leaves.left, length-append (kept_of h k.mark) (drop k.mark h), length-drop k.mark h, leaves.within)

-- ---- copies

accept_fits : (net : Network) (h : List Entry) (k : Remains) → Leaves net h k → LimitsHold h → (c : Call) (r : Reply) → r ≡ reply_to net h c → AcceptFits k.entries c r
accept_fits net h k leaves limits (call.JoinReply t (outcome.Success join)) (reply.Accepted eui session addr) is = step (is_ticket_open h t) refl is
  where
    step : (b : Bool) → is_ticket_open h t ≡ b →
        reply.Accepted eui session addr ≡ first_case (when (not b) reply.NoTicket ∷ None ∷ option_map (λ g. reply.JoinStale (record { 0 = g })) (nonce_at_or_above net h t) ∷ []) (reply.Accepted (dev_eui t) (next_session h (dev_eui t)) (address net (dev_eui t))) →
        length (ticket_copies k.entries t) ≤ most_copies
    step false closed accepted = absurd (cc accepted)
    step true opens accepted =
        let same : ticket_copies k.entries t ≡ ticket_copies h t = sym (ticket_copies-with_closings k.mark k.windows k.entries t) ∙ (leaves-alike net h k leaves).copies_of_tickets t opens in
        subst (λ (hs : List Heard). length hs ≤ most_copies) (sym same) (limits.of_ticket t)
accept_fits net h k leaves limits _ _ is = tt

-- the copies of what is left fit, at an entry that is legal after the history
pub copies_fit : (net : Network) (h : List Entry) (k : Remains) → Leaves net h k → LimitsHold h → (e : Entry) → e.reply ≡ reply_to net h e.call → CopiesFit k.entries e
copies_fit net h k leaves limits e is = record {
  windows = λ w. (let fewer = left_fewer (λ es. window_copies es w) (window_copies-adds w) net h k leaves in omega (arith, fewer, limits.of_window w));
  ticket = accept_fits net h k leaves limits e.call e.reply is;
}
