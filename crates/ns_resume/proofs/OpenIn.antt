-- What is open in shards that have what they keep of a history: each window once, and each ticket that waits.
use Rattle.std.proofs.Common.{◌≡◌, ◌≢◌, ℕ, ◌+◌, ◌<◌, ◌≤◌, zero, suc, Bool, true, false, ◌||◌, List, [], ◌∷◌, ◌++◌, slice_get, map, filter_map, count_by, take, drop, zero-add, Option, None, Some, refl, sym, ap, ◌∙◌, subst, arith, inl, inr}
use Rattle.std.specs.List.{AllByRecursion, list_any, cons_option}
use Rattle.std.proofs.lemmas.Bool.{cond_both, false_from_ne_true, false≢true, or_right}
use Rattle.std.proofs.lemmas.Bool.Decides.{eqb_tells}
use Rattle.std.proofs.lemmas.List.{take-append-drop}
use Rattle.std.proofs.lemmas.List.Folds.{list_any-append}
use Rattle.ns_types.specs.Identity.{shard_of, same_window}
use Rattle.ns_types.specs.Cases.{when}
use Rattle.ns_types.specs.declared.identity.WindowName.{WindowName}
use Rattle.ns_types.specs.declared.ticket.Ticket.{Ticket}
use Rattle.ns_roster.specs.Network.{Network}
use Rattle.ns_roster.specs.Valid.{IsRoster}
use Rattle.ns_calls.specs.declared.call.Call.{Call}
use Rattle.ns_calls.specs.declared.call.Call.TheVariants as call
use Rattle.ns_calls.specs.declared.call.Reply.{Reply}
use Rattle.ns_calls.specs.declared.call.Reply.TheVariants as reply
use Rattle.ns_calls.specs.declared.call.Entry.{Entry}
use Rattle.ns_calls.specs.Entries.{Opening, open_windows}
use Rattle.ns_calls.specs.History.{same_ticket, asks_for, open_tickets, is_ticket_open}
use Rattle.ns_calls.specs.Laws.{open_count, WindowsOpenOnce}
use Rattle.ns_calls.specs.Legal.{IsHistory}
use Rattle.ns_calls.specs.Reply.{reply_to}
use Rattle.ns_calls.specs.Shards.{shard_of_call}
use Rattle.ns_calls.proofs.JoinLemmas.{join-has}
use Rattle.ns_calls.proofs.Lists.{All-append, All-weaker, count-append}
use Rattle.ns_calls.proofs.LocalLemmas.{bool_tells}
use Rattle.ns_calls.proofs.Merges.{by_place, replies_name_own_devices}
use Rattle.ns_calls.proofs.NameLemmas.{same_window-eq}
use Rattle.ns_calls.proofs.RoundLemmas.{count-none}
use Rattle.ns_calls.proofs.Says.{is_ticket, asking_in, asked-by}
use Rattle.ns_calls.proofs.ShardLemmas.{Housed, IsOwn, open_windows-mine}
use Rattle.ns_calls.proofs.TicketLemmas.{same_ticket-eq}
use Rattle.ns_calls.proofs.WindowLemmas.{windows_open_once}
use Rattle.ns_kept.specs.Kept.{Remains, reading, filter_before, is_kept}
use Rattle.ns_kept.specs.Left.{Leaves}
use Rattle.ns_kept.proofs.Law.{leaves-alike}
use Rattle.ns_kept.proofs.ReadLemmas.{open_tickets-with_closings}
use Rattle.ns_kept.proofs.Within.{All-end}
use Rattle.ns_sessions.proofs.OpenTickets.{open_asked, at_member, same_ticket-refl}
use Rattle.ns_shard.specs.State.{State, remains, seen, asked_in, open_tickets_in}
use Rattle.ns_acts.specs.declared.step.Step.{Step}
use Rattle.ns_runs.specs.KeptSteps.{AreHistories, AreKeptFrom}
use Rattle.ns_runs.specs.Steps.{shard_history_from}
use Rattle.ns_shard.proofs.Maps.{count-map}
use Rattle.ns_runs.proofs.RunHistories.{history_from-is}
use Rattle.ns_resume.specs.Resumed.{AreOpenIn, windows_in, tickets_in}

-- ---- the open windows of one shard

abbrev names : State → List WindowName
names s = map (λ o. o.window) (open_windows (seen s))

-- how many windows of a list have this name
abbrev named : WindowName → List WindowName → ℕ
named w ws = count_by (λ v. same_window v w) ws

-- they are of the shard's devices, and each stands there once
record AreOnce (index : ℕ) (s : State) : Type 0 where
  own : AllByRecursion (IsOwn index) (open_windows (seen s))
  once : (w : WindowName) → named w (names s) ≤ 1

are-once : (net : Network) (index : ℕ) (h : List Entry) (s : State) → IsRoster net → IsHistory net index h → Leaves net h (remains s) → AreOnce index s
are-once net index h s valid is leaves =
    let same : open_windows (seen s) ≡ open_windows h = (leaves-alike net h (remains s) leaves).windows in
    let each : (n : ℕ) (e : Entry) → slice_get h n ≡ Some e → Housed e × (shard_of_call e.call ≡ index) = λ n e at. (replies_name_own_devices net valid h is.legal n e at, is.own n e at) in
    let own : AllByRecursion (IsOwn index) (open_windows h) = open_windows-mine index h (by_place (λ e. Housed e × (shard_of_call e.call ≡ index)) h each) in
    let opens : WindowsOpenOnce h = windows_open_once net h is.legal in
    record {
      own = subst (AllByRecursion (IsOwn index)) (sym same) own;
      once = λ w.
          let counted : named w (names s) ≡ open_count h w = count-map (λ (o : Opening). o.window) (λ v. same_window v w) (open_windows (seen s)) ∙ ap (count_by (λ (o : Opening). same_window o.window w)) same in
          let most = opens.opens w in
          let sum = opens.closes w in
          omega (arith, counted, most, sum);
    }

-- a window of another shard is none of these
none-named : (index : ℕ) (s : State) → AreOnce index s → (w : WindowName) → shard_of w.eui ≢ index → named w (names s) ≡ 0
none-named index s has w other =
    count-map (λ (o : Opening). o.window) (λ v. same_window v w) (open_windows (seen s))
    ∙ count-none (λ (o : Opening). same_window o.window w) (open_windows (seen s))
    (All-weaker (IsOwn index) (λ o. same_window o.window w ≡ false) differs (open_windows (seen s)) has.own)
  where
    differs : (o : Opening) → IsOwn index o → same_window o.window w ≡ false
    differs o mine = false_from_ne_true _ (λ same. other (ap (λ (x : WindowName). shard_of x.eui) (sym (same_window-eq o.window w same)) ∙ mine))

-- ---- those of all shards

-- the shards of these numbers and on
abbrev AreFrom : ℕ → List State → Type 0
AreFrom first [] = Unit {0}
AreFrom first (s ∷ shards) = AreOnce first s × AreFrom (first + 1) shards

are-from : (first : ℕ) (shards : List State) → ((k : ℕ) (s : State) → slice_get shards k ≡ Some s → AreOnce (first + k) s) → AreFrom first shards
are-from first [] each = tt
are-from first (s ∷ shards) each = (
  subst (λ n. AreOnce n s) (omega arith) (each zero s refl),
  are-from (first + 1) shards (λ k t at. subst (λ n. AreOnce n t) (omega arith) (each (suc k) t at)),
)

-- windows of shards before these are none of theirs
none-before : (w : WindowName) (first : ℕ) (shards : List State) → AreFrom first shards → shard_of w.eui < first → named w (windows_in shards) ≡ 0
none-before w first [] are below = refl
none-before w first (s ∷ shards) are below =
    count-append (λ v. same_window v w) (names s) (windows_in shards)
    ∙ (ap (λ n. n + named w (windows_in shards)) (none-named first s are.0 w (λ is. omega (arith, is, below)))
    ∙ (zero-add (named w (windows_in shards)) ∙ none-before w (first + 1) shards are.1 (omega (arith, below))))

once-from : (w : WindowName) (first : ℕ) (shards : List State) → AreFrom first shards → named w (windows_in shards) ≤ 1
once-from w first [] are = omega arith
once-from w first (s ∷ shards) are =
    let sum : named w (windows_in (s ∷ shards)) ≡ named w (names s) + named w (windows_in shards) = count-append (λ v. same_window v w) (names s) (windows_in shards) in
    elim (eqb_tells (shard_of w.eui) first) [
      | inl here ↦
          let most = are.0.once w in
          let none = none-before w (first + 1) shards are.1 (let is = here.1 in omega (arith, is)) in
          omega (arith, sum, most, none)
      | inr other ↦
          let none = none-named first s are.0 w other.1 in
          let most = once-from w (first + 1) shards are.1 in
          omega (arith, sum, none, most)
    ]

-- ---- the open tickets of one shard

-- the ticket that a join server is asked for is that of the call
abbrev IsAsked : Ticket → Reply → Type 0
IsAsked t (reply.Ask u) = u ≡ t
IsAsked t _ = Unit {0}

abbrev AsksIts : Call → Reply → Type 0
AsksIts (call.Join t heard) r = IsAsked t r
AsksIts _ r = Unit {0}

abbrev AsksItsTicket : Entry → Type 0
AsksItsTicket e = AsksIts e.call e.reply

abbrev IsJoin : Call → Type 0
IsJoin (call.Join t heard) = Unit {0}
IsJoin _ = ⊥

asks-its_ticket : (net : Network) (h : List Entry) (c : Call) (r : Reply) → r ≡ reply_to net h c → AsksIts c r
asks-its_ticket net h (call.Join t heard) r is =
    subst (IsAsked t) (sym is)
    (join-has (IsAsked t) net h t (record { unknown = λ no. tt; old = λ known g. tt; copied = λ known room. tt; crowded = tt; busy = tt; ask = λ known closed room. refl }))
asks-its_ticket net h _ r is = tt

All-left : {X : Type 0} (P : X → Type 0) (xs ys : List X) → AllByRecursion P (xs ++ ys) → AllByRecursion P xs
All-left P [] ys all = tt
All-left P (x ∷ xs) ys all = (all.0, All-left P xs ys all.1)

All-filter_before : {X : Type 0} (P : X → Type 0) (test : X → List X → Bool) (xs : List X) → AllByRecursion P xs → AllByRecursion P (filter_before test xs)
All-filter_before P test [] all = tt
All-filter_before P test (x ∷ xs) all =
    let later = All-filter_before P test xs all.1 in
    cond_both (test x xs) (x ∷ filter_before test xs) (filter_before test xs) (AllByRecursion P) (λ _. (all.0, later)) (λ _. later)

-- what is left of a history are some of its entries
All-left_of : (P : Entry → Type 0) (net : Network) (h : List Entry) (k : Remains) → Leaves net h k → AllByRecursion P h → AllByRecursion P k.entries
All-left_of P net h k leaves all =
    let m : ℕ = k.mark in
    let both : AllByRecursion P (take m h ++ drop m h) = subst (AllByRecursion P) (sym (take-append-drop m h)) all in
    subst (λ (x : Remains). AllByRecursion P x.entries) (sym leaves.left)
    (All-append P (filter_before (is_kept (reading (record { mark = 0; windows = []; entries = take m h }))) (take m h)) (drop m h)
    (All-filter_before P (is_kept (reading (record { mark = 0; windows = []; entries = take m h }))) (take m h) (All-left P (take m h) (drop m h) both))
    (All-end P (take m h) (drop m h) both))

module _ (test : Ticket → Bool) (t : Ticket) where
  abbrev listed : List Entry → List Ticket
  listed es = filter_map (λ e. asked_in test e.reply) es

  -- each ticket that is listed passes the test
  passes : (es : List Entry) → list_any (same_ticket t) (listed es) ≡ true → test t ≡ true
  passes [] is = absurd (false≢true is)
  passes (e ∷ es) is = step e.reply (passes es) is
    where
      single : (u : Ticket) (b : Bool) → test u ≡ b → (list_any (same_ticket t) (listed es) ≡ true → test t ≡ true) → list_any (same_ticket t) (cons_option (when b u) (listed es)) ≡ true → test t ≡ true
      single u false fails later any = later any
      single u true holds later any = elim (bool_tells (same_ticket t u)) [
        | inl same ↦ ap test (same_ticket-eq t u same) ∙ holds
        | inr other ↦ later (subst (λ b. (b || list_any (same_ticket t) (listed es)) ≡ true) other any)
      ]

      step : (r : Reply) → (list_any (same_ticket t) (listed es) ≡ true → test t ≡ true) → list_any (same_ticket t) (cons_option (asked_in test r) (listed es)) ≡ true → test t ≡ true
      step (reply.Ask u) later any = single u (test u) refl later any
      step _ later any = later any

  -- a ticket that passes the test is listed for an entry that asks for it
  asked : test t ≡ true → (c : Call) (r : Reply) → AsksIts c r → is_ticket t (asking_in c r) ≡ true → asked_in test r ≡ Some t
  asked holds (call.Join u heard) (reply.Ask v) is asks =
      let same : v ≡ t = is ∙ sym (same_ticket-eq t u asks) in
      ap (λ x. when (test x) x) same ∙ ap (λ b. when b t) holds
  asked holds (call.Join u heard) _ is asks = absurd (false≢true asks)
  asked holds c r is asks = absurd (asked-by (λ d p. is_ticket t p ≡ true → IsJoin d) (λ d no. absurd (false≢true no)) (λ v h is. tt) c r asks)

  or-later : (o : Option Ticket) (ts : List Ticket) → list_any (same_ticket t) ts ≡ true → list_any (same_ticket t) (cons_option o ts) ≡ true
  or-later None ts later = later
  or-later (Some u) ts later = or_right (same_ticket t u) (list_any (same_ticket t) ts) later

  -- it is listed where some entry asks for it
  lists : test t ≡ true → (es : List Entry) → AllByRecursion AsksItsTicket es → list_any (asks_for t) es ≡ true → list_any (same_ticket t) (listed es) ≡ true
  lists holds [] own is = absurd (false≢true is)
  lists holds (e ∷ es) own is = elim (bool_tells (asks_for t e)) [
    | inl here ↦ ap (λ o. list_any (same_ticket t) (cons_option o (listed es))) (asked holds e.call e.reply own.0 here) ∙ ap (λ b. b || list_any (same_ticket t) (listed es)) (same_ticket-refl t)
    | inr later ↦ or-later (asked_in test e.reply) (listed es) (lists holds es own.1 (subst (λ b. (b || list_any (asks_for t) es) ≡ true) later is))
  ]

-- the tickets that a shard names are those that wait
named-wait : (net : Network) (index : ℕ) (h : List Entry) (s : State) → IsHistory net index h → Leaves net h (remains s) → (t : Ticket) → list_any (same_ticket t) (open_tickets_in s) ≡ is_ticket_open (seen s) t
named-wait net index h s is leaves t = step (is_ticket_open (seen s) t) refl
  where
    own : AllByRecursion AsksItsTicket s.entries
    own = All-left_of AsksItsTicket net h (remains s) leaves (by_place AsksItsTicket h (λ n e at. asks-its_ticket net (take n h) e.call e.reply (is.legal n e at)))

    step : (b : Bool) → is_ticket_open (seen s) t ≡ b → list_any (same_ticket t) (open_tickets_in s) ≡ b
    step true here =
        let within : is_ticket_open s.entries t ≡ true = sym (ap (list_any (same_ticket t)) (open_tickets-with_closings s.mark s.windows s.entries)) ∙ here in
        lists (is_ticket_open (seen s)) t here s.entries own (at_member (λ u. list_any (asks_for u) s.entries ≡ true) t (open_tickets s.entries) within (open_asked s.entries))
    step false closed = false_from_ne_true _ (λ some. false≢true (sym closed ∙ passes (is_ticket_open (seen s)) t s.entries some))

all-wait : (t : Ticket) (shards : List State) → ((k : ℕ) (s : State) → slice_get shards k ≡ Some s → list_any (same_ticket t) (open_tickets_in s) ≡ is_ticket_open (seen s) t)
    → list_any (same_ticket t) (tickets_in shards) ≡ list_any (λ s. is_ticket_open (seen s) t) shards
all-wait t [] each = refl
all-wait t (s ∷ shards) each =
    list_any-append (same_ticket t) (open_tickets_in s) (tickets_in shards)
    ∙ (ap (λ b. b || list_any (same_ticket t) (tickets_in shards)) (each zero s refl)
    ∙ ap (λ b. is_ticket_open (seen s) t || b) (all-wait t shards (λ k u at. each (suc k) u at)))

-- ---- of shards that a record leaves

module _ (net : Network) (starts : ℕ → List Entry) (steps : List Step) (shards : List State) (valid : IsRoster net) (histories : AreHistories net starts) (are : AreKeptFrom net starts steps shards) where
  left : (k : ℕ) (s : State) → slice_get shards k ≡ Some s → Leaves net (shard_history_from net starts k steps) (remains s)
  left k s at = subst (λ n. Leaves n (shard_history_from net starts k steps) (remains s)) (are.each k s at).roster (are.each k s at).keeps.left

  each-once : (k : ℕ) (s : State) → slice_get shards k ≡ Some s → AreOnce (0 + k) s
  each-once k s at = subst (λ n. AreOnce n s) (omega arith) (are-once net k (shard_history_from net starts k steps) s valid (history_from-is net starts histories k steps) (left k s at))

  each-wait : (t : Ticket) (k : ℕ) (s : State) → slice_get shards k ≡ Some s → list_any (same_ticket t) (open_tickets_in s) ≡ is_ticket_open (seen s) t
  each-wait t k s at = named-wait net k (shard_history_from net starts k steps) s (history_from-is net starts histories k steps) (left k s at) t

  pub open-in : (windows : List WindowName) (tickets : List Ticket) → windows ≡ windows_in shards → tickets ≡ tickets_in shards → AreOpenIn shards windows tickets
  open-in windows tickets windows_are tickets_are = record {
    are_windows = windows_are;
    each_once = λ w. subst (λ ws. named w ws ≤ 1) (sym windows_are) (once-from w 0 shards (are-from 0 shards each-once));
    are_tickets = tickets_are;
    each_waits = λ t. ap (list_any (same_ticket t)) tickets_are ∙ all-wait t shards (each-wait t);
  }
