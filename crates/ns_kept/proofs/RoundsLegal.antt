-- Many rounds of one uplink, each closed before the next, are what the plain server replies to the same frame heard again and again.
use Rattle.std.proofs.Common.{◌≡◌, ℕ, zero, suc, ◌+◌, ◌<◌, ◌≤◌, ◌==◌, ◌^◌, Bool, true, false, not, ◌&&◌, cond, List, [], ◌∷◌, ◌++◌, length, map, filter, filter_map, find, count_by, nat_le, nat_lt, unwrap_or, bytes_eq, Option, None, Some, option_map, refl, sym, ap, ap₂, subst, ◌∙◌, arith, max}
use Rattle.std.specs.List.{AllByRecursion, list_any}
use Rattle.std.specs.Option.{option_and_then}
use Rattle.std.proofs.lemmas.List.{append_assoc, append-nil}
use Rattle.std.proofs.lemmas.List.Elements.{filter-append, filter_map-append}
use Rattle.std.proofs.lemmas.Bool.{or_parts, false_from_ne_true, both_ways, eq-eqb, lt-ltb}
use Rattle.ns_types.specs.declared.identity.DevEui.{DevEui}
use Rattle.ns_types.specs.declared.identity.WindowName.{WindowName}
use Rattle.ns_types.specs.declared.heard.Heard.{Heard}
use Rattle.ns_types.specs.Cases.{first_case, when}
use Rattle.ns_types.specs.Identity.{same_uplink, same_window}
use Rattle.ns_views.specs.Frame.{data_fields, is_confirmed}
use Rattle.ns_secure.specs.Counter.{above, below}
use Rattle.ns_roster.specs.declared.Device.{Device}
use Rattle.ns_roster.specs.Network.{Network}
use Rattle.ns_calls.specs.declared.call.Call.{Call}
use Rattle.ns_calls.specs.declared.call.Call.TheVariants as call
use Rattle.ns_calls.specs.declared.call.Reply.{Reply}
use Rattle.ns_calls.specs.declared.call.Reply.TheVariants as reply
use Rattle.ns_calls.specs.declared.call.Entry.{Entry}
use Rattle.ns_calls.specs.Queries.{first, last, greater, maximum}
use Rattle.ns_calls.specs.Entries.{Acceptance, Opening, Closing, says, closed, same_device, open_windows, acceptances, openings}
use Rattle.ns_calls.specs.History.{first_and_other, is_live, greatest_counter, last_round, next_ack, session_acks, closings, open_window, is_uplink_open, window_count}
use Rattle.ns_calls.specs.Legal.{IsLegal, entry_of}
use Rattle.ns_calls.specs.Reply.{Fit, fit_of, fitting_counter, device_fit, devices_at, first_fit, window_with, in_round, window_of, is_greatest, round_of, most_windows, old_reply, uplink_rule, reply_to_uplink, reply_to_close, reply_to, ack_number}
use Rattle.ns_calls.proofs.Lists.{filter-all, filter_map-same}
use Rattle.ns_calls.proofs.LocalLemmas.{All-each}
use Rattle.ns_calls.proofs.NameLemmas.{both_hold, same_window-refl, same_window-uplink}
use Rattle.ns_calls.proofs.PushLemmas.{open_windows-push, openings-push, acceptances-push, closings-push}
use Rattle.ns_calls.proofs.QueryLemmas.{maximum-push}
use Rattle.ns_calls.proofs.LegalLemmas.{IsLegal-push}
use Rattle.ns_calls.proofs.RoundLemmas.{last_round-new, last_round-other}
use Rattle.ns_calls.proofs.UplinkLemmas.{IsRoundOf, round_of-is, facts_by}
use Rattle.ns_calls.proofs.FreshLemmas.{again-next}
use Rattle.ns_kept.specs.Rounds.{rounds_later, one_round, many_rounds}
use Rattle.ns_kept.proofs.ManyRounds.{acceptances-same, openings-same, open_windows-same}

-- ---- why a frame is acknowledged again

record IsAgain (net : Network) (h : List Entry) (frame : List ℕ) (w : WindowName) : Type 0 where
  fit : Fit
  round : ℕ
  apart : window_with h frame ≡ None
  old : first_fit above net h frame ≡ None
  fits : first_fit below net h frame ≡ Some fit
  confirmed : is_confirmed frame ≡ true
  room : nat_le most_windows (window_count h fit.eui) ≡ false
  next : round_of h fit ≡ Some round
  is : w ≡ in_round fit round

again-is : (net : Network) (h : List Entry) (frame : List ℕ) (w : WindowName) → reply_to_uplink net h frame ≡ reply.Again w → IsAgain net h frame w
again-is net h frame w is = step (window_with h frame) (first_fit above net h frame) (first_fit below net h frame) refl refl refl is
  where
    copies : (b : Bool) (v : WindowName) (n : ℕ) → cond b (reply.Copied v n) (reply.Crowded v) ≡ reply.Again w → IsAgain net h frame w
    copies true v n told = absurd (cc told)
    copies false v n told = absurd (cc told)

    opens : (b : Bool) (eui : DevEui) (v : WindowName) → cond b (reply.Busy eui) (reply.Opened v) ≡ reply.Again w → IsAgain net h frame w
    opens true eui v told = absurd (cc told)
    opens false eui v told = absurd (cc told)

    again : (f : Fit) → window_with h frame ≡ None → first_fit above net h frame ≡ None → first_fit below net h frame ≡ Some f → is_confirmed frame ≡ true → (round : ℕ) → round_of h f ≡ Some round
        → (b : Bool) → nat_le most_windows (window_count h f.eui) ≡ b → cond b (reply.Busy f.eui) (reply.Again (in_round f round)) ≡ reply.Again w → IsAgain net h frame w
    again f apart old fits confirmed round next true full told = absurd (cc told)
    again f apart old fits confirmed round next false room told = record { fit = f; round = round; apart = apart; old = old; fits = fits; confirmed = confirmed; room = room; next = next; is = cc told }

    repeats : (f : Fit) → window_with h frame ≡ None → first_fit above net h frame ≡ None → first_fit below net h frame ≡ Some f → (b : Bool) → is_confirmed frame ≡ b → (o : Option ℕ) → round_of h f ≡ o
        → old_reply b f (window_count h f.eui) o ≡ reply.Again w → IsAgain net h frame w
    repeats f apart old fits false confirmed o next told = absurd (cc told)
    repeats f apart old fits true confirmed None next told = absurd (cc told)
    repeats f apart old fits true confirmed (Some round) next told = again f apart old fits confirmed round next (nat_le most_windows (window_count h f.eui)) refl told

    step : (o : Option Opening) (fresh stale : Option Fit) → window_with h frame ≡ o → first_fit above net h frame ≡ fresh → first_fit below net h frame ≡ stale
        → uplink_rule (facts_by h frame o fresh stale) ≡ reply.Again w → IsAgain net h frame w
    step (Some o) fresh stale apart old fits told = copies _ o.window _ told
    step None (Some f) stale apart old fits told = opens _ f.eui (window_of f) told
    step None None (Some f) apart old fits told = repeats f apart old fits (is_confirmed frame) refl (round_of h f) refl told
    step None None None apart old fits told = absurd (cc told)

-- ---- acknowledgement numbers

abbrev acks_by : ℕ → List Closing → List ℕ
acks_by session cs = filter_map (λ (c : Closing). c.ack) (filter (λ (c : Closing). c.window.session == session) cs)

abbrev next_by : List ℕ → ℕ
next_by ns = unwrap_or (option_map (λ n. n + 1) (maximum ns)) 0

next-after : (ns : List ℕ) (n : ℕ) → next_by ns ≡ n → next_by (ns ++ n ∷ []) ≡ n + 1
next-after ns n is = ap (λ g. unwrap_or (option_map (λ m. m + 1) g) 0) (maximum-push ns n) ∙ step (maximum ns) is
  where
    step : (g : Option ℕ) → unwrap_or (option_map (λ m. m + 1) g) 0 ≡ n → unwrap_or (option_map (λ m. m + 1) (greater g (Some n))) 0 ≡ n + 1
    step None first_is = refl
    step (Some m) next_is = omega (arith, next_is)

-- ---- where a frame fits rests on the joins and openings of devices alone

abbrev fit_by : (Option ℕ → ℕ → Option ℕ) → List ℕ → DevEui → List Acceptance → List Opening → Option Fit
fit_by recover frame eui joins uplinks =
    first (filter_map (λ session. option_map (fit_of eui session)
    (option_and_then (λ join. fitting_counter recover frame join.nwk (maximum (map (λ (o : Opening). o.window.fcnt) (filter (λ (o : Opening). o.window.session == session) uplinks))))
    (option_map (λ (a : Acceptance). a.join_ans) (find (λ (a : Acceptance). a.session == session) joins))))
    (first_and_other (option_map (λ (o : Opening). o.window.session) (last uplinks)) (option_map (λ (a : Acceptance). a.session) (last joins))))

module _ (net : Network) (h : List Entry) (number : ℕ) (frame : List ℕ) (heard : Heard) (w : WindowName) (ack : ℕ) where
  abbrev now : List Entry
  now = h ++ one_round number frame heard w ack

  abbrev opens : Entry
  opens = entry_of number (call.Uplink frame heard) (reply.Again w)

  abbrev shuts : Entry
  shuts = entry_of (number + 1) (call.Close w) (reply.Closed w (Some ack))

  abbrev opening : Opening
  opening = record { window = w; frame = frame; heard = heard }

  split : (h ++ opens ∷ []) ++ shuts ∷ [] ≡ now
  split = append_assoc h (opens ∷ []) (shuts ∷ [])

  device_fit-same : (recover : Option ℕ → ℕ → Option ℕ) (other : List ℕ) (eui : DevEui) → device_fit recover now other eui ≡ device_fit recover h other eui
  device_fit-same recover other eui = ap₂ (fit_by recover other eui) (acceptances-same h number frame heard w ack eui) (openings-same h number frame heard w ack eui)

  first_fit-same : (recover : Option ℕ → ℕ → Option ℕ) (other : List ℕ) → first_fit recover net now other ≡ first_fit recover net h other
  first_fit-same recover other =
      let devices : List Device = devices_at net (data_fields other).addr in
      ap first (filter_map-same (λ (d : Device). device_fit recover now other d.eui) (λ (d : Device). device_fit recover h other d.eui) devices
      (All-each (λ (d : Device). device_fit recover now other d.eui ≡ device_fit recover h other d.eui) (λ d. device_fit-same recover other d.eui) devices))

  -- the last round of the uplink is now this one
  pub round-now : last_round h w ≤ w.round → last_round now w ≡ w.round
  round-now most =
      ap (λ (g : List Entry). last_round g w) (sym split)
      ∙ (last_round-other (h ++ opens ∷ []) shuts w tt ∙ last_round-new h opens opening refl most)

  -- the same frame is acknowledged once more
  pub again-later : reply_to_uplink net h frame ≡ reply.Again w → w.round + 1 < 2 ^ 32 → reply_to_uplink net now frame ≡ reply.Again (rounds_later 1 w)
  again-later told small =
      let why = again-is net h frame w told in
      let f : Fit = why.fit in
      let of_round : IsRoundOf h f why.round = round_of-is h f why.round why.next in
      let shut : is_uplink_open h w ≡ false = subst (λ v. is_uplink_open h v ≡ false) (sym why.is) of_round.closed in
      let windows = open_windows-same h number frame heard w ack shut in
      let of_w : (g : List Entry) → last_round g w ≡ last_round g (window_of f) = λ g. ap (last_round g) why.is in
      let here : w.round ≡ why.round = ap (λ (v : WindowName). v.round) why.is in
      let before = of_w h in
      let next = of_round.next in
      let last : last_round now (window_of f) ≡ w.round = sym (of_w now) ∙ round-now (omega (arith, here, before, next)) in
      let unopened : is_uplink_open now (window_of f) ≡ false = ap (list_any (λ (o : Opening). same_uplink o.window (window_of f))) windows ∙ of_round.closed in
      let counter : greatest_counter now f.eui f.session ≡ Some f.counter = ap (λ (os : List Opening). maximum (map (λ (o : Opening). o.window.fcnt) (filter (λ (o : Opening). o.window.session == f.session) os))) (openings-same h number frame heard w ack f.eui) ∙ of_round.counter in
      let fits : (is_greatest (Some f.counter) f.counter && nat_lt (w.round + 1) (2 ^ 32)) ≡ true = both_hold _ _ (eq-eqb f.counter f.counter refl) (lt-ltb (w.round + 1) (2 ^ 32) small) in
      let round : round_of now f ≡ Some (w.round + 1) =
      (λ i. cond (unopened i) None (let n = last i + 1 in when (is_greatest (counter i) f.counter && nat_lt n (2 ^ 32)) n)) ∙ ap (λ b. when b (w.round + 1)) fits in
      let found : window_with now frame ≡ None = ap (find (λ (o : Opening). bytes_eq o.frame frame)) windows ∙ why.apart in
      let fresh = first_fit-same above frame ∙ why.old in
      let stale = first_fit-same below frame ∙ why.fits in
      let room : nat_le most_windows (window_count now f.eui) ≡ false = ap (λ os. nat_le most_windows (count_by (λ (o : Opening). same_device o.window.eui f.eui) os)) windows ∙ why.room in
      let name : in_round f (w.round + 1) ≡ rounds_later 1 w = sym (ap (rounds_later 1) why.is ∙ ap (λ r. in_round f (r + 1)) (sym here)) in
      (λ i. uplink_rule (facts_by now frame (found i) (fresh i) (stale i)))
      ∙ ((λ i. old_reply (why.confirmed i) f (window_count now f.eui) (round i))
      ∙ (ap (λ b. cond b (reply.Busy f.eui) (reply.Again (in_round f (w.round + 1)))) room
      ∙ ap reply.Again name))

  -- ---- the closing of the round

  found-new : (os : List Opening) → list_any (λ o. same_uplink o.window w) os ≡ false → find (λ (o : Opening). same_window o.window w) (os ++ opening ∷ []) ≡ Some opening
  found-new [] none = ap (λ b. cond b (Some opening) None) (same_window-refl w)
  found-new (o ∷ os) none =
      let parts = or_parts _ _ none in
      ap (λ b. cond b (Some o) (find (λ (p : Opening). same_window p.window w) (os ++ opening ∷ []))) (false_from_ne_true _ (λ is. both_ways _ parts.0 (same_window-uplink o.window w is)))
      ∙ found-new os parts.1

  abbrev opened : List Entry
  opened = h ++ opens ∷ []

  open-now : is_uplink_open h w ≡ false → open_window opened w ≡ Some opening
  open-now shut =
      ap (find (λ (o : Opening). same_window o.window w)) (open_windows-push h opens ∙ ap (λ os. os ++ opening ∷ []) (filter-all (open_windows h)))
      ∙ found-new (open_windows h) shut

  pub live-opened : is_live opened w.eui w.session ≡ is_live h w.eui w.session
  live-opened =
      ap₂ (λ (os : List Opening) (as_of : List Acceptance). list_any (λ s. s == w.session) (first_and_other (option_map (λ (o : Opening). o.window.session) (last os)) (option_map (λ (a : Acceptance). a.session) (last as_of))))
      (openings-push h opens w.eui ∙ append-nil (openings h w.eui)) (acceptances-push h opens w.eui ∙ append-nil (acceptances h w.eui))

  pub acks-opened : next_ack opened w.eui w.session ≡ next_ack h w.eui w.session
  acks-opened = ap (λ (cs : List Closing). next_by (acks_by w.session cs)) (closings-push h opens w.eui ∙ append-nil (closings h w.eui))

  -- it is acknowledged with the next number, if there is one
  pub closed-by : is_uplink_open h w ≡ false → is_confirmed frame ≡ true → is_live h w.eui w.session ≡ true → next_ack h w.eui w.session ≡ ack → reply_to_close opened w ≡ reply.Closed w (when (nat_lt ack (2 ^ 32)) ack)
  closed-by shut confirmed lives number_is =
      let acks : next_ack opened w.eui w.session ≡ ack = acks-opened ∙ number_is in
      let lives_now : is_live opened w.eui w.session ≡ true = live-opened ∙ lives in
      ap (λ o. first_case (option_map (λ p. reply.Closed w (ack_number opened p)) o ∷ []) reply.NoWindow) (open-now shut)
      ∙ (λ i. reply.Closed w (cond (confirmed i && lives_now i) (when (nat_lt (acks i) (2 ^ 32)) (acks i)) None))

  -- it is acknowledged with the next number
  pub closed-now : is_uplink_open h w ≡ false → is_confirmed frame ≡ true → is_live h w.eui w.session ≡ true → next_ack h w.eui w.session ≡ ack → ack < 2 ^ 32 → reply_to_close opened w ≡ reply.Closed w (Some ack)
  closed-now shut confirmed lives number_is small = closed-by shut confirmed lives number_is ∙ ap (λ b. reply.Closed w (when b ack)) (lt-ltb ack (2 ^ 32) small)

  -- and the number after that is the next one then
  pub ack-after : next_ack h w.eui w.session ≡ ack → next_ack now w.eui w.session ≡ ack + 1
  ack-after is =
      ap (λ (g : List Entry). next_ack g w.eui w.session) (sym split)
      ∙ (ap (λ (cs : List Closing). next_by (acks_by w.session cs)) (closings-push opened shuts w.eui
      ∙ (ap (λ b. closings opened w.eui ++ cond b (closing ∷ []) []) (eq-eqb w.eui.0 w.eui.0 refl)
      ∙ ap (λ cs. cs ++ closing ∷ []) (closings-push h opens w.eui ∙ append-nil (closings h w.eui))))
      ∙ (ap next_by (acks_more (closings h w.eui)) ∙ next-after (acks_by w.session (closings h w.eui)) ack is))
    where
      closing : Closing
      closing = record { window = w; ack = Some ack }

      acks_more : (cs : List Closing) → acks_by w.session (cs ++ record { window = w; ack = Some ack } ∷ []) ≡ acks_by w.session cs ++ ack ∷ []
      acks_more cs =
          ap (filter_map (λ (c : Closing). c.ack)) (filter-append (λ (c : Closing). c.window.session == w.session) cs (record { window = w; ack = Some ack } ∷ [])
          ∙ ap (λ b. filter (λ (c : Closing). c.window.session == w.session) cs ++ cond {A = List Closing} b (record { window = w; ack = Some ack } ∷ []) []) (eq-eqb w.session w.session refl))
          ∙ filter_map-append (λ (c : Closing). c.ack) (filter (λ (c : Closing). c.window.session == w.session) cs) (record { window = w; ack = Some ack } ∷ [])

  -- ---- one round

  pub round-legal : IsLegal net h → reply_to net h (call.Uplink frame heard) ≡ reply.Again w → next_ack h w.eui w.session ≡ ack → ack < 2 ^ 32 → IsLegal net now
  round-legal legal told is small =
      let next = again-next net h legal frame heard w told in
      subst (IsLegal net) split
      (IsLegal-push net opened shuts (IsLegal-push net h opens legal (sym told)) (sym (closed-now next.closed next.confirmed next.session is small)))

-- ---- many rounds

pub many-legal : (net : Network) (n : ℕ) (h : List Entry) (number : ℕ) (frame : List ℕ) (heard : Heard) (w : WindowName) (ack : ℕ) → IsLegal net h → reply_to net h (call.Uplink frame heard) ≡ reply.Again w
    → next_ack h w.eui w.session ≡ ack → w.round + n < 2 ^ 32 → ack + n < 2 ^ 32 → IsLegal net (h ++ many_rounds (suc n) number frame heard w ack)
many-legal net zero h number frame heard w ack legal told is rounds acks = round-legal net h number frame heard w ack legal told is (omega (arith, acks))
many-legal net (suc n) h number frame heard w ack legal told is rounds acks =
    let now : List Entry = one_round number frame heard w ack in
    subst (IsLegal net) (append_assoc h now (many_rounds (suc n) (number + 2) frame heard (rounds_later 1 w) (ack + 1)))
    (many-legal net n (h ++ now) (number + 2) frame heard (rounds_later 1 w) (ack + 1) (round-legal net h number frame heard w ack legal told is (omega (arith, acks)))
    (again-later net h number frame heard w ack told (omega (arith, rounds))) (ack-after net h number frame heard w ack is) (omega (arith, rounds)) (omega (arith, acks)))
