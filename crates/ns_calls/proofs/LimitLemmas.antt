-- The limits of a device, and of copies.
use Rattle.std.proofs.Common.{◌≡◌, ℕ, ◌+◌, ◌<◌, ◌≤◌, Bool, true, false, not, cond, List, [], ◌∷◌, ◌++◌, filter, map, count_by, length, length-append, Option, None, Some, IfSome, option_to_list, refl, sym, ap, subst, ◌∙◌, arith}
use Rattle.std.proofs.lemmas.List.{length-map}
use Rattle.std.proofs.lemmas.List.Sums.{length-filter}
use Rattle.std.proofs.lemmas.Bool.{cond_both}
use Rattle.std.specs.List.{list_any}
use Rattle.std.proofs.lemmas.Bool.{false≢true}
use Rattle.ns_types.specs.declared.identity.DevEui.{DevEui}
use Rattle.ns_types.specs.declared.identity.WindowName.{WindowName}
use Rattle.ns_types.specs.declared.heard.Heard.{Heard}
use Rattle.ns_types.specs.declared.ticket.Ticket.{Ticket}
use Rattle.ns_types.specs.Identity.{same_window}
use Rattle.ns_types.specs.Ticket.{dev_eui}
use Rattle.ns_roster.specs.Network.{Network}
use Rattle.ns_calls.specs.declared.call.Call.{Call}
use Rattle.ns_calls.specs.declared.call.Call.TheVariants as call
use Rattle.ns_calls.specs.declared.call.Reply.{Reply}
use Rattle.ns_calls.specs.declared.call.Reply.TheVariants as reply
use Rattle.ns_calls.specs.declared.call.Entry.{Entry}
use Rattle.ns_calls.specs.Entries.{Opening, same_device, closes, open_windows, most_copies, opened}
use Rattle.ns_calls.specs.History.{same_ticket, ends_ticket, asks_for, open_tickets, window_count, window_copies, ticket_count, copies_of_ticket, ticket_copies, copied, join_copied}
use Rattle.ns_calls.proofs.Says.{window_in, asking_in, window_copy_in, ticket_copy_in, is_ticket, uplink-says, join-says, answer-says, close-says}
use Rattle.ns_calls.specs.Reply.{most_windows, most_tickets, reply_to}
use Rattle.ns_calls.specs.Legal.{IsLegal, entry_for, with_call}
use Rattle.ns_calls.specs.Headline.{LimitsHold}
use Rattle.ns_calls.proofs.Lists.{one_more, count-append, count-cons, IfSome-weaker}
use Rattle.ns_calls.proofs.PushLemmas.{open_windows-push, window_copies-push, open_tickets-push, ticket_copies-push}
use Rattle.ns_calls.proofs.Induction.{legal_induction}
use Rattle.ns_calls.proofs.JoinLemmas.{same_device-eq, join-has}
use Rattle.ns_calls.proofs.TicketLemmas.{same_ticket-eq}
use Rattle.ns_calls.proofs.NameLemmas.{same_window-eq}
use Rattle.ns_calls.proofs.KnownLemmas.{IsAsked, asking-new}
use Rattle.ns_calls.proofs.UplinkLemmas.{uplink-has}
use Rattle.ns_calls.proofs.FreshLemmas.{opened-new, again-next}

-- what holds of a reply to an uplink: where it opens a window there is room, and where it adds a copy there is room for that
abbrev HasRoom : Network → List Entry → Reply → Type 0
HasRoom net h (reply.Opened w) = window_count h w.eui < most_windows
HasRoom net h (reply.Again w) = window_count h w.eui < most_windows
HasRoom net h (reply.Copied w place) = length (window_copies h w) < most_copies
HasRoom net h _ = Unit {0}

uplink-room : (net : Network) (h : List Entry) (frame : List ℕ) (heard : Heard) → HasRoom net h (reply_to net h (call.Uplink frame heard))
uplink-room net h frame heard = uplink-has (HasRoom net h) net h frame (record {
  copied = λ o is room. room;
  crowded = λ o is full. tt;
  opened = λ f none is room. room;
  again = λ f round none is confirmed next room. room;
  busy = λ recover f is. tt;
  old = λ f is. tt;
  none = tt;
})

-- ---- windows

count-filter : {X : Type 0} (test keep : X → Bool) (xs : List X) → count_by test (filter keep xs) ≤ count_by test xs
count-filter test keep [] = omega arith
count-filter test keep (x ∷ xs) =
    let ih = count-filter test keep xs in
    let sum = count-cons test x xs in
    cond_both (keep x) (x ∷ filter keep xs) (filter keep xs) (λ ys. count_by test ys ≤ count_by test (x ∷ xs))
    (λ _. (let kept = count-cons test x (filter keep xs) in omega (arith, ih, sum, kept))) (λ _. omega (arith, ih, sum))

-- one more that may count, where there is room if it does
one_more_fits : {X : Type 0} (test : X → Bool) (before most : ℕ) (o : Option X) → before ≤ most → IfSome o (λ x. test x ≡ true → before < most) → (kept : ℕ) → kept ≤ before → kept + count_by test (option_to_list o) ≤ most
one_more_fits test before most None within room kept fewer = (let none : count_by test [] ≡ 0 = refl in omega (arith, within, fewer, none))
one_more_fits test before most (Some x) within room kept fewer = rw (count-cons test x []) (
    (elim (test x) as (λ b. (b ≡ true → before < most) → kept + (cond b 1 0 + 0) ≤ most) [
      | true ↦ λ fits. (let less = fits refl in omega (arith, less, fewer))
      | false ↦ λ _. omega (arith, within, fewer)
    ]) room)

-- of what is still open no more pass than fit
still_fits : {X : Type 0} (test keep : X → Bool) (most : ℕ) (xs : List X) (o : Option X) → count_by test xs ≤ most → IfSome o (λ x. test x ≡ true → count_by test xs < most) → count_by test (filter keep xs ++ option_to_list o) ≤ most
still_fits test keep most xs o within room =
    rw (count-append test (filter keep xs) (option_to_list o)) (one_more_fits test (count_by test xs) most o within room (count_by test (filter keep xs)) (count-filter test keep xs))

opening-room : (net : Network) (h : List Entry) (frame : List ℕ) (heard : Heard) (r : Reply) → HasRoom net h r → IfSome (window_in (call.Uplink frame heard) r) (λ o. window_count h o.window.eui < most_windows)
opening-room net h frame heard (reply.Opened w) room = room
opening-room net h frame heard (reply.Again w) room = room
opening-room net h frame heard _ room = tt

reply-room : (net : Network) (h : List Entry) (c : Call) → IfSome (window_in c (reply_to net h c)) (λ o. window_count h o.window.eui < most_windows)
reply-room net h (call.Uplink frame heard) = opening-room net h frame heard (reply_to net h (call.Uplink frame heard)) (uplink-room net h frame heard)
reply-room net h (call.Join t heard) = join-says (λ s. IfSome (opened s) (λ o. window_count h o.window.eui < most_windows)) t heard tt tt tt (reply_to net h (call.Join t heard))
reply-room net h (call.JoinReply t x) = answer-says (λ s. IfSome (opened s) (λ o. window_count h o.window.eui < most_windows)) t x (λ n. tt) tt tt (reply_to net h (call.JoinReply t x))
reply-room net h (call.Close w) = close-says (λ s. IfSome (opened s) (λ o. window_count h o.window.eui < most_windows)) w (λ ack. tt) tt (reply_to net h (call.Close w))

windows_step : (net : Network) (h : List Entry) (number : ℕ) (c : Call) (eui : DevEui) → window_count h eui ≤ most_windows → window_count (with_call net h number c) eui ≤ most_windows
windows_step net h number c eui within =
    let e : Entry = entry_for net h number c in
    let test : Opening → Bool = λ o. same_device o.window.eui eui in
    let keep : Opening → Bool = λ o. not (closes o.window e) in
    let room : IfSome (window_in c (reply_to net h c)) (λ o. test o ≡ true → window_count h eui < most_windows) =
    IfSome-weaker (λ (o : Opening). window_count h o.window.eui < most_windows) (λ (o : Opening). test o ≡ true → window_count h eui < most_windows) (window_in c (reply_to net h c))
    (λ o fits same. subst (λ (d : DevEui). window_count h d < most_windows) (same_device-eq o.window.eui eui same) fits) (reply-room net h c) in
    rw (open_windows-push h e) (still_fits test keep most_windows (open_windows h) (window_in c (reply_to net h c)) within room)

-- ---- tickets

tickets_step : (net : Network) (h : List Entry) (number : ℕ) (c : Call) (eui : DevEui) → ticket_count h eui ≤ most_tickets → ticket_count (with_call net h number c) eui ≤ most_tickets
tickets_step net h number c eui within =
    let e : Entry = entry_for net h number c in
    let test : Ticket → Bool = λ u. same_device (dev_eui u) eui in
    let keep : Ticket → Bool = λ u. not (ends_ticket u e) in
    let room : IfSome (asking_in c (reply_to net h c)) (λ u. test u ≡ true → ticket_count h eui < most_tickets) =
    IfSome-weaker (IsAsked net h) (λ (u : Ticket). test u ≡ true → ticket_count h eui < most_tickets) (asking_in c (reply_to net h c))
    (λ u is same. subst (λ (d : DevEui). ticket_count h d < most_tickets) (same_device-eq (dev_eui u) eui same) is.1) (asking-new net h c) in
    rw (open_tickets-push h e) (still_fits test keep most_tickets (open_tickets h) (asking_in c (reply_to net h c)) within room)

-- ---- copies of a window

-- the copies that are added are one at most
told : {X : Type 0} (test : X × Heard → Bool) (o : Option (X × Heard)) (most before : ℕ) → before ≤ most → IfSome o (λ c. test c ≡ true → before < most) → before + length (map (λ (c : X × Heard). c.1) (filter test (option_to_list o))) ≤ most
told test o most before within room =
    let sum = one_more_fits test before most o within room before (omega arith) in
    let long : length (map (λ c. c.1) (filter test (option_to_list o))) ≡ count_by test (option_to_list o) = length-map (filter test (option_to_list o)) (λ c. c.1) ∙ length-filter test (option_to_list o) in
    omega (arith, sum, long)

copy-fits : (net : Network) (h : List Entry) → IsLegal net h → (frame : List ℕ) (heard : Heard) (r : Reply) → reply_to net h (call.Uplink frame heard) ≡ r → HasRoom net h r → IfSome (window_copy_in (call.Uplink frame heard) r) (λ c. length (window_copies h c.0) < most_copies)
copy-fits net h legal frame heard (reply.Opened w) is room = rw (opened-new net h legal frame heard w is).copies (omega arith)
copy-fits net h legal frame heard (reply.Again w) is room = rw (again-next net h legal frame heard w is).copies (omega arith)
copy-fits net h legal frame heard (reply.Copied w place) is room = room
copy-fits net h legal frame heard _ is room = tt

copies-room : (net : Network) (h : List Entry) → IsLegal net h → (c : Call) → IfSome (window_copy_in c (reply_to net h c)) (λ x. length (window_copies h x.0) < most_copies)
copies-room net h legal (call.Uplink frame heard) = copy-fits net h legal frame heard (reply_to net h (call.Uplink frame heard)) refl (uplink-room net h frame heard)
copies-room net h legal (call.Join t heard) = join-says (λ s. IfSome (copied s) (λ x. length (window_copies h x.0) < most_copies)) t heard tt tt tt (reply_to net h (call.Join t heard))
copies-room net h legal (call.JoinReply t o) = answer-says (λ s. IfSome (copied s) (λ x. length (window_copies h x.0) < most_copies)) t o (λ n. tt) tt tt (reply_to net h (call.JoinReply t o))
copies-room net h legal (call.Close w) = close-says (λ s. IfSome (copied s) (λ x. length (window_copies h x.0) < most_copies)) w (λ ack. tt) tt (reply_to net h (call.Close w))

copies_step : (net : Network) (h : List Entry) (number : ℕ) (c : Call) → IsLegal net h → (w : WindowName) → length (window_copies h w) ≤ most_copies → length (window_copies (with_call net h number c) w) ≤ most_copies
copies_step net h number c legal w within =
    let e : Entry = entry_for net h number c in
    let test : WindowName × Heard → Bool = λ x. same_window x.0 w in
    let room : IfSome (window_copy_in c (reply_to net h c)) (λ x. test x ≡ true → length (window_copies h w) < most_copies) =
    IfSome-weaker (λ (x : WindowName × Heard). length (window_copies h x.0) < most_copies) (λ (x : WindowName × Heard). test x ≡ true → length (window_copies h w) < most_copies) (window_copy_in c (reply_to net h c))
    (λ x fits same. subst (λ (v : WindowName). length (window_copies h v) < most_copies) (same_window-eq x.0 w same) fits) (copies-room net h legal c) in
    let more : List Heard = map (λ (x : WindowName × Heard). x.1) (filter test (option_to_list (window_copy_in c (reply_to net h c)))) in
    let sum : length (window_copies (h ++ e ∷ []) w) ≡ length (window_copies h w) + length more = ap length (window_copies-push h e w) ∙ length-append (window_copies h w) more in
    subst (λ n. n ≤ most_copies) (sym sum) (told test (window_copy_in c (reply_to net h c)) most_copies (length (window_copies h w)) within room)

-- ---- copies of a ticket

-- where a Join-Request adds a copy to a ticket that it doesn't ask for, there is room for it
join_copy-room : (net : Network) (h : List Entry) (u : Ticket) (heard : Heard) (t : Ticket) → is_ticket t (asking_in (call.Join u heard) (reply_to net h (call.Join u heard))) ≡ false
    → IfSome (ticket_copy_in (call.Join u heard) (reply_to net h (call.Join u heard))) (λ x. same_ticket t x.0 ≡ true → length (ticket_copies h t) < most_copies)
join_copy-room net h u heard t = join-has (λ r. is_ticket t (asking_in (call.Join u heard) r) ≡ false → IfSome (ticket_copy_in (call.Join u heard) r) (λ x. same_ticket t x.0 ≡ true → length (ticket_copies h t) < most_copies)) net h u (record {
  unknown = λ unknown other. tt;
  old = λ known greatest other. tt;
  copied = λ known room other same. subst (λ (v : Ticket). length (ticket_copies h v) < most_copies) (sym (same_ticket-eq t u same)) room;
  crowded = λ other. tt;
  busy = λ other. tt;
  ask = λ known closed room other same. absurd (false≢true (sym other ∙ same));
})

-- the copies that one entry adds to a ticket
one_entry : (e : Entry) (t : Ticket) (most before : ℕ) → before ≤ most → IfSome (ticket_copy_in e.call e.reply) (λ c. same_ticket t c.0 ≡ true → before < most) → before + length (copies_of_ticket (e ∷ []) t) ≤ most
one_entry e t most before within room = rw (one_more (λ (x : Entry). ticket_copy_in x.call x.reply) e) (told (λ (c : Ticket × Heard). same_ticket t c.0) (ticket_copy_in e.call e.reply) most before within room)

some-any : {X : Type 0} (P : X → Type 0) (o : Option X) → ((x : X) → P x) → IfSome o P
some-any P None each = tt
some-any P (Some x) each = each x

-- room for the copy of one's own ticket
own-room : (net : Network) (h : List Entry) (number : ℕ) (c : Call) (t : Ticket) → asks_for t (entry_for net h number c) ≡ false → IfSome (ticket_copy_in c (reply_to net h c)) (λ x. same_ticket t x.0 ≡ true → length (ticket_copies h t) < most_copies)
own-room net h number (call.Uplink frame heard) t other =
    uplink-says (λ s. IfSome (join_copied s) (λ x. same_ticket t x.0 ≡ true → length (ticket_copies h t) < most_copies)) frame heard (λ w. tt) (λ w. tt) (λ w. tt) tt (reply_to net h (call.Uplink frame heard))
own-room net h number (call.JoinReply u o) t other =
    answer-says (λ s. IfSome (join_copied s) (λ x. same_ticket t x.0 ≡ true → length (ticket_copies h t) < most_copies)) u o (λ n. tt) tt tt (reply_to net h (call.JoinReply u o))
own-room net h number (call.Close w) t other =
    close-says (λ s. IfSome (join_copied s) (λ x. same_ticket t x.0 ≡ true → length (ticket_copies h t) < most_copies)) w (λ ack. tt) tt (reply_to net h (call.Close w))
own-room net h number (call.Join u heard) t other = join_copy-room net h u heard t other

ticket_copies_step : (net : Network) (h : List Entry) (number : ℕ) (c : Call) (t : Ticket) → length (ticket_copies h t) ≤ most_copies → length (ticket_copies (with_call net h number c) t) ≤ most_copies
ticket_copies_step net h number c t within =
    let e : Entry = entry_for net h number c in
    let old : List Heard = ticket_copies h t in
    let new : List Heard = copies_of_ticket (e ∷ []) t in
    let Fits : List Heard → Type 0 = λ hs. length hs ≤ most_copies in
    rw (ticket_copies-push h e t) (cond_both (asks_for t e) new (cond (list_any (asks_for t) h) (old ++ new) []) Fits
    (λ _.
    let fits = one_entry e t most_copies 0 (omega arith) (some-any (λ x. same_ticket t x.0 ≡ true → 0 < most_copies) (ticket_copy_in c (reply_to net h c)) (λ x _. omega arith)) in
    omega (arith, fits))
    (λ other. cond_both (list_any (asks_for t) h) (old ++ new) [] Fits
    (λ _. rw (length-append old new) (one_entry e t most_copies (length old) within (own-room net h number c t other))) (λ _. omega arith)))

limits_step : (net : Network) (h : List Entry) (number : ℕ) (c : Call) → IsLegal net h → LimitsHold h → LimitsHold (with_call net h number c)
limits_step net h number c legal hold = record {
  windows = λ eui. windows_step net h number c eui (hold.windows eui);
  tickets = λ eui. tickets_step net h number c eui (hold.tickets eui);
  of_window = λ w. copies_step net h number c legal w (hold.of_window w);
  of_ticket = λ t. ticket_copies_step net h number c t (hold.of_ticket t);
}

pub limits : (net : Network) (h : List Entry) → IsLegal net h → LimitsHold h
limits net h legal =
    legal_induction net LimitsHold (record { windows = λ eui. omega arith; tickets = λ eui. omega arith; of_window = λ w. omega arith; of_ticket = λ t. omega arith }) (λ g number c ok hold. limits_step net g number c ok hold) h legal
