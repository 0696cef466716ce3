-- A window opens once and closes at most once.
use Rattle.std.proofs.Common.{◌≡◌, ℕ, ◌+◌, ◌≤◌, Bool, true, false, not, cond, List, [], ◌∷◌, ◌++◌, filter, filter_map, count_by, Option, None, Some, IfSome, option_map, option_to_list, refl, ap, subst, ◌∙◌, arith, inl, inr}
use Rattle.std.specs.Prelude.{is_some}
use Rattle.std.specs.Option.{option_map_or}
use Rattle.ns_types.specs.declared.identity.WindowName.{WindowName}
use Rattle.ns_types.specs.Cases.{first_case}
use Rattle.ns_types.specs.Identity.{same_window}
use Rattle.ns_roster.specs.Network.{Network}
use Rattle.ns_calls.specs.declared.call.Call.{Call}
use Rattle.ns_calls.specs.declared.call.Call.TheVariants as call
use Rattle.ns_calls.specs.declared.call.Reply.{Reply}
use Rattle.ns_calls.specs.declared.call.Reply.TheVariants as reply
use Rattle.ns_calls.specs.declared.call.Entry.{Entry}
use Rattle.ns_calls.specs.Entries.{opened, Opening, Closing, closes, open_windows, closed}
use Rattle.ns_calls.proofs.Says.{window_in, closing_in, uplink-says, join-says, answer-says, close-says}
use Rattle.ns_calls.specs.History.{open_window}
use Rattle.ns_calls.specs.Reply.{ack_number, reply_to}
use Rattle.ns_calls.specs.Legal.{IsLegal, entry_for, with_call}
use Rattle.ns_calls.specs.Laws.{opening_count, closing_count, open_count, WindowsOpenOnce}
use Rattle.ns_calls.proofs.LocalLemmas.{bool_tells}
use Rattle.ns_calls.proofs.PushLemmas.{open_windows-push}
use Rattle.ns_calls.proofs.Lists.{says-push, count-append, count-cons, count-kept, count-dropped, count-found, filter-all}
use Rattle.ns_calls.proofs.Induction.{legal_induction}
use Rattle.ns_calls.proofs.NameLemmas.{same_window-eq}
use Rattle.ns_calls.proofs.RoundLemmas.{windows-fresh}

-- ---- what one call adds to the counts

count-push : {X Y : Type 0} (says : X → Option Y) (test : Y → Bool) (xs : List X) (x : X) → count_by test (filter_map says (xs ++ x ∷ [])) ≡ count_by test (filter_map says xs) + count_by test (option_to_list (says x))
count-push says test xs x = ap (count_by test) (says-push says xs x) ∙ count-append test (filter_map says xs) (option_to_list (says x))

pub openings-added : (h : List Entry) (e : Entry) (w : WindowName) → opening_count (h ++ e ∷ []) w ≡ opening_count h w + count_by (λ o. same_window o.window w) (option_to_list (window_in e.call e.reply))
openings-added h e w = count-push (λ (x : Entry). window_in x.call x.reply) (λ o. same_window o.window w) h e

pub closings-added : (h : List Entry) (e : Entry) (w : WindowName) → closing_count (h ++ e ∷ []) w ≡ closing_count h w + count_by (λ c. same_window c.window w) (option_to_list (closing_in e.call e.reply))
closings-added h e w = count-push (λ (x : Entry). closing_in x.call x.reply) (λ c. same_window c.window w) h e

open-added : (h : List Entry) (e : Entry) (w : WindowName) →
    open_count (h ++ e ∷ []) w ≡ count_by (λ o. same_window o.window w) (filter (λ o. not (closes o.window e)) (open_windows h)) + count_by (λ o. same_window o.window w) (option_to_list (window_in e.call e.reply))
open-added h e w =
    let test = λ (o : Opening). same_window o.window w in
    ap (count_by test) (open_windows-push h e) ∙ count-append test (filter (λ (o : Opening). not (closes o.window e)) (open_windows h)) (option_to_list (window_in e.call e.reply))

-- a call that closes nothing: what it opens is open
not_closing : (h : List Entry) (e : Entry) → WindowsOpenOnce h → closing_in e.call e.reply ≡ None → IfSome (window_in e.call e.reply) (λ o. opening_count h o.window ≡ 0) → WindowsOpenOnce (h ++ e ∷ [])
not_closing h e once closes_none new = record {
  opens = λ w. once_more (window_in e.call e.reply) new w (openings-added h e w);
  closes = λ w.
      (let added : ℕ = count_by (λ (o : Opening). same_window o.window w) (option_to_list (window_in e.call e.reply)) in
      let no_closing : closing_count (h ++ e ∷ []) w ≡ closing_count h w + 0 = closings-added h e w ∙ ap (λ c. closing_count h w + count_by (λ (x : Closing). same_window x.window w) (option_to_list c)) closes_none in
      let all_stay : filter (λ (o : Opening). not (closes o.window e)) (open_windows h) ≡ open_windows h = ap (λ c. filter (λ (o : Opening). not (option_map_or (λ (x : Closing). same_window x.window o.window) c false)) (open_windows h)) closes_none ∙ filter-all (open_windows h) in
      let still : open_count (h ++ e ∷ []) w ≡ open_count h w + added = open-added h e w ∙ ap (λ os. count_by (λ (o : Opening). same_window o.window w) os + added) all_stay in
      let opened : opening_count (h ++ e ∷ []) w ≡ opening_count h w + added = openings-added h e w in
      let was : closing_count h w + open_count h w ≡ opening_count h w = once.closes w in
      omega (arith, no_closing, still, opened, was));
}
  where
    once_more : (o : Option Opening) → IfSome o (λ (x : Opening). opening_count h x.window ≡ 0) → (w : WindowName) → opening_count (h ++ e ∷ []) w ≡ opening_count h w + count_by (λ (x : Opening). same_window x.window w) (option_to_list o) → opening_count (h ++ e ∷ []) w ≤ 1
    once_more None is_new w is = (let was : opening_count h w ≤ 1 = once.opens w in let none : opening_count (h ++ e ∷ []) w ≡ opening_count h w + 0 = is in omega (arith, none, was))
    once_more (Some o) is_new w is =
        let now : opening_count (h ++ e ∷ []) w ≡ opening_count h w + (cond (same_window o.window w) 1 0 + 0) = is ∙ ap (λ n. opening_count h w + n) (count-cons (λ (x : Opening). same_window x.window w) o []) in
        elim (bool_tells (same_window o.window w)) [
          | inl same ↦
              (let before : opening_count h w ≡ 0 = subst (λ (v : WindowName). opening_count h v ≡ 0) (same_window-eq o.window w same) is_new in
              let one = rw same at now in
              omega (arith, before, one))
          | inr differs ↦ (let was : opening_count h w ≤ 1 = once.opens w in let none = rw differs at now in omega (arith, none, was))
        ]

-- a call that closes a window that is open
closing : (h : List Entry) (e : Entry) (c : Closing) → WindowsOpenOnce h → closing_in e.call e.reply ≡ Some c → window_in e.call e.reply ≡ None → is_some (open_window h c.window) ≡ true → WindowsOpenOnce (h ++ e ∷ [])
closing h e c once is opens_none found = record {
  opens = λ w. (let was : opening_count h w ≤ 1 = once.opens w in let same = opened w in omega (arith, was, same));
  closes = step;
}
  where
    keep : Opening → Bool
    keep o = not (same_window c.window o.window)

    opened : (w : WindowName) → opening_count (h ++ e ∷ []) w ≡ opening_count h w + 0
    opened w = openings-added h e w ∙ ap (λ o. opening_count h w + count_by (λ (x : Opening). same_window x.window w) (option_to_list o)) opens_none

    step : (w : WindowName) → closing_count (h ++ e ∷ []) w + open_count (h ++ e ∷ []) w ≡ opening_count (h ++ e ∷ []) w
    step w =
        let named : Opening → Bool = λ o. same_window o.window w in
        let now = opened w in
        let one : closing_count (h ++ e ∷ []) w ≡ closing_count h w + (cond (same_window c.window w) 1 0 + 0) =
        closings-added h e w
        ∙ (ap (λ o. closing_count h w + count_by (λ (x : Closing). same_window x.window w) (option_to_list o)) is
        ∙ ap (λ n. closing_count h w + n) (count-cons (λ (x : Closing). same_window x.window w) c [])) in
        let still : open_count (h ++ e ∷ []) w ≡ count_by named (filter keep (open_windows h)) + 0 =
        open-added h e w
        ∙ (λ i. count_by named (filter (λ (o : Opening). not (option_map_or (λ (y : Closing). same_window y.window o.window) (is i) false)) (open_windows h)) + count_by named (option_to_list (opens_none i))) in
        let was : closing_count h w + open_count h w ≡ opening_count h w = once.closes w in
        let most : opening_count h w ≤ 1 = once.opens w in
        let kept_as = λ (o : Opening) (counts : named o ≡ true). ap (λ (v : WindowName). not (same_window c.window v)) (same_window-eq o.window w counts) in
        elim (bool_tells (same_window c.window w)) [
          | inl same ↦
              (let here : is_some (open_window h w) ≡ true = subst (λ (v : WindowName). is_some (open_window h v) ≡ true) (same_window-eq c.window w same) found in
              let least : 1 ≤ open_count h w = count-found named (open_windows h) here in
              let gone = count-dropped named keep (λ o counts. kept_as o counts ∙ ap not same) (open_windows h) in
              let closed = rw same at one in
              omega (arith, now, closed, still, gone, was, most, least))
          | inr differs ↦
              (let kept = count-kept named keep (λ o counts. kept_as o counts ∙ ap not differs) (open_windows h) in
              let none = rw differs at one in
              omega (arith, now, none, still, kept, was))
        ]

windows_step : (net : Network) (h : List Entry) (number : ℕ) (c : Call) → IsLegal net h → WindowsOpenOnce h → WindowsOpenOnce (with_call net h number c)
windows_step net h number (call.Uplink frame heard) legal once = not_closing h (entry_for net h number (call.Uplink frame heard)) once (uplink-says (λ s. closed s ≡ None) frame heard (λ w. refl) (λ w. refl) (λ w. refl) refl (reply_to net h (call.Uplink frame heard))) (windows-fresh net h legal (call.Uplink frame heard))
windows_step net h number (call.Join t heard) legal once = not_closing h (entry_for net h number (call.Join t heard)) once (join-says (λ s. closed s ≡ None) t heard refl refl refl (reply_to net h (call.Join t heard))) (windows-fresh net h legal (call.Join t heard))
windows_step net h number (call.JoinReply t o) legal once = not_closing h (entry_for net h number (call.JoinReply t o)) once (answer-says (λ s. closed s ≡ None) t o (λ n. refl) refl refl (reply_to net h (call.JoinReply t o))) (windows-fresh net h legal (call.JoinReply t o))
windows_step net h number (call.Close w) legal once = step (open_window h w) refl
  where
    e : Entry
    e = entry_for net h number (call.Close w)

    replied : Option Opening → Reply
    replied found = first_case (option_map (λ o. reply.Closed w (ack_number h o)) found ∷ []) reply.NoWindow

    step : (found : Option Opening) → open_window h w ≡ found → WindowsOpenOnce (h ++ e ∷ [])
    step None is = not_closing h e once (ap (λ o. closing_in (call.Close w) (first_case (option_map (λ (x : Opening). reply.Closed w (ack_number h x)) o ∷ []) reply.NoWindow)) is) (windows-fresh net h legal (call.Close w))
    step (Some o) is =
        closing h e (record { window = w; ack = ack_number h o }) once (ap (λ x. closing_in (call.Close w) (first_case (option_map (λ (y : Opening). reply.Closed w (ack_number h y)) x ∷ []) reply.NoWindow)) is) (close-says (λ s. opened s ≡ None) w (λ ack. refl) refl (reply_to net h (call.Close w))) (ap is_some is)

pub windows_open_once : (net : Network) (h : List Entry) → IsLegal net h → WindowsOpenOnce h
windows_open_once net h legal = legal_induction net WindowsOpenOnce (record { opens = λ w. omega arith; closes = λ w. refl }) (λ g number c ok once. windows_step net g number c ok once) h legal
