-- The live sessions and the open tickets of a history are those that its devices tell.
use Rattle.std.proofs.Common.{◌≡◌, ℕ, suc, Bool, true, false, ◌||◌, ◌==◌, cond, List, [], ◌∷◌, filter_map, map, find, slice_get, Option, None, Some, option_map, is_some, ◌⊎◌, refl, sym, ap, subst, ◌∙◌, inl, inr}
use Rattle.std.specs.Prelude.{IsSome}
use Rattle.std.specs.List.{AllByRecursion, list_any, cons_option}
use Rattle.std.specs.Option.{option_map_or}
use Rattle.std.proofs.lemmas.Bool.{false≢true, eq-eqb, eqb-true, false_from_ne_true}
use Rattle.ns_types.specs.declared.identity.DevEui.{DevEui}
use Rattle.ns_types.specs.declared.ticket.Ticket.{Ticket}
use Rattle.ns_types.specs.Identity.{shard_of}
use Rattle.ns_types.specs.Ticket.{dev_eui}
use Rattle.ns_roster.specs.declared.Device.{Device}
use Rattle.ns_roster.specs.Network.{Network, device}
use Rattle.ns_roster.specs.Valid.{IsRoster}
use Rattle.ns_roster.proofs.DeviceLemmas.{found-device}
use Rattle.ns_calls.specs.declared.call.Call.{Call}
use Rattle.ns_calls.specs.declared.call.Call.TheVariants as call
use Rattle.ns_calls.specs.declared.call.Outcome.TheVariants as outcome
use Rattle.ns_calls.specs.declared.call.JoinAns.{JoinAns}
use Rattle.ns_calls.specs.declared.call.Reply.{Reply}
use Rattle.ns_calls.specs.declared.call.Reply.TheVariants as reply
use Rattle.ns_calls.specs.declared.call.Entry.{Entry}
use Rattle.ns_calls.specs.Entries.{Acceptance, acceptances, same_device, accepted}
use Rattle.ns_calls.proofs.Says.{acceptance_in, uplink-says, join-says, answer-says, close-says, accepted-by}
use Rattle.ns_calls.specs.History.{same_ticket, session_join, live, is_live, open_tickets, is_ticket_open}
use Rattle.ns_calls.specs.Reply.{reply_to}
use Rattle.ns_calls.specs.Shards.{shard_of_call}
use Rattle.ns_calls.specs.Legal.{IsLegal, IsHistory, entry_for}
use Rattle.ns_calls.proofs.Induction.{legal_induction}
use Rattle.ns_calls.proofs.JoinLemmas.{same_device-eq}
use Rattle.ns_calls.proofs.KeyLemmas.{sessions_have_joins}
use Rattle.ns_calls.proofs.LocalLemmas.{bool_tells, list_any-own}
use Rattle.ns_kept.proofs.Later.{said-more, each-some}
use Rattle.ns_sessions.specs.declared.session.Session.{Session}
use Rattle.ns_sessions.specs.declared.ticket.OpenTicket.{OpenTicket}
use Rattle.ns_sessions.specs.Record.{device_record, session_record, ticket_record, tickets_of, session_in}
use Rattle.ns_sessions.proofs.OpenTickets.{same_device-refl, other_device}
use Rattle.ns_devices.specs.declared.own.Own.{Own}
use Rattle.ns_shard.specs.Tables.{own_in, devices_in}
use Rattle.ns_devices.specs.Devices.{own_of}
use Rattle.ns_devices.specs.Devices.{lives_in, has_ticket_in}
use Rattle.ns_shard.proofs.Roster.{own-found}
use Rattle.ns_shard.proofs.AnswerSteps.{not_open, answer-unknown, open-known}
use Rattle.ns_shard.proofs.Endings.{open-own, foreign-none}
use Rattle.std.proofs.lemmas.Option.{none-some, same_Some}
use Rattle.ns_calls.proofs.RoundLemmas.{filter-none}
use Rattle.ns_calls.proofs.Lists.{All-weaker}
use Rattle.ns_shard.proofs.CloseSteps.{all_both}
use Rattle.ns_shard.proofs.Maps.{some-of}

-- ---- whose joins are accepted

accepted-eui : (t : Ticket) (j : JoinAns) (r : Reply) (a : Acceptance) → acceptance_in (call.JoinReply t (outcome.Success j)) r ≡ Some a → dev_eui t ≡ a.eui
accepted-eui t j (reply.Accepted eui session addr) a is = cc
accepted-eui t j _ a is = absurd (cc is)

-- a join that is accepted is of a device of the roster
accepted-known : (net : Network) → IsRoster net → (g : List Entry) → IsLegal net g → (c : Call) (a : Acceptance) → acceptance_in c (reply_to net g c) ≡ Some a → IsSome (device net a.eui)
accepted-known net valid g legal (call.Uplink frame heard) a is =
    absurd (none-some a (sym (uplink-says (λ s. accepted s ≡ None) frame heard (λ w. refl) (λ w. refl) (λ w. refl) refl (reply_to net g (call.Uplink frame heard))) ∙ is))
accepted-known net valid g legal (call.Join t heard) a is = absurd (none-some a (sym (join-says (λ s. accepted s ≡ None) t heard refl refl refl (reply_to net g (call.Join t heard))) ∙ is))
accepted-known net valid g legal (call.Close w) a is = absurd (none-some a (sym (close-says (λ s. accepted s ≡ None) w (λ ack. refl) refl (reply_to net g (call.Close w))) ∙ is))
accepted-known net valid g legal (call.JoinReply t outcome.Failed) a is =
    absurd (none-some a (sym (answer-says (λ s. accepted s ≡ None) t outcome.Failed (λ n. refl) refl refl (reply_to net g (call.JoinReply t outcome.Failed))) ∙ is))
accepted-known net valid g legal (call.JoinReply t (outcome.Success j)) a is = step (device net (dev_eui t)) refl
  where
    step : (x : Option Device) → device net (dev_eui t) ≡ x → IsSome (device net a.eui)
    step (Some d) here = subst (λ e. IsSome (device net e)) (accepted-eui t j (reply_to net g (call.JoinReply t (outcome.Success j))) a is) (subst (λ (o : Option Device). IsSome o) (sym here) refl)
    step None here =
        let none : acceptance_in (call.JoinReply t (outcome.Success j)) (reply_to net g (call.JoinReply t (outcome.Success j))) ≡ None =
        ap (acceptance_in (call.JoinReply t (outcome.Success j))) (answer-unknown net g t (outcome.Success j) (not_open net g t valid legal here)) in
        absurd (cc (none, is))

-- where a device is of the shard, and of the roster
abbrev IsHome : Network → ℕ → DevEui → Type 0
IsHome net index eui = (shard_of eui ≡ index) × IsSome (device net eui)

accepted-own : (k : ℕ) (c : Call) (r : Reply) (a : Acceptance) → acceptance_in c r ≡ Some a → shard_of_call c ≡ k → shard_of a.eui ≡ k
accepted-own k c r a =
    accepted-by (λ d p. p ≡ Some a → shard_of_call d ≡ k → shard_of a.eui ≡ k) (λ d no mine. absurd (none-some a no))
    (λ t join session is mine. ap shard_of (sym (ap (λ (x : Acceptance). x.eui) (same_Some (record { eui = dev_eui t; session = session; ticket = t; join_ans = join }) a is))) ∙ mine) c r

said-of : (k : ℕ) (h : List Entry) → ((n : ℕ) (e : Entry) → slice_get h n ≡ Some e → shard_of_call e.call ≡ k) → AllByRecursion (λ a. shard_of a.eui ≡ k) (filter_map (λ e. acceptance_in e.call e.reply) h)
said-of k [] own = tt
said-of k (e ∷ h) own = step (acceptance_in e.call e.reply) refl (said-of k h (λ n x at. own (suc n) x at))
  where
    step : (o : Option Acceptance) → acceptance_in e.call e.reply ≡ o → AllByRecursion (λ a. shard_of a.eui ≡ k) (filter_map (λ x. acceptance_in x.call x.reply) h)
        → AllByRecursion (λ a. shard_of a.eui ≡ k) (cons_option o (filter_map (λ x. acceptance_in x.call x.reply) h))
    step None is rest = rest
    step (Some a) is rest = (accepted-own k e.call e.reply a is (own 0 e refl), rest)

all-known : (net : Network) → IsRoster net → (h : List Entry) → IsLegal net h → AllByRecursion (λ a. IsSome (device net a.eui)) (filter_map (λ e. acceptance_in e.call e.reply) h)
all-known net valid h legal =
    let Known : Acceptance → Type 0 = λ a. IsSome (device net a.eui) in
    legal_induction net (λ g. AllByRecursion Known (filter_map (λ (e : Entry). acceptance_in e.call e.reply) g)) tt
    (λ g number c ok all. said-more Known (λ (e : Entry). acceptance_in e.call e.reply) g (entry_for net g number c) all
    (each-some Known (acceptance_in c (reply_to net g c)) (λ a is. accepted-known net valid g ok c a is))) h legal

-- no join of another device is accepted
away-none : (net : Network) (index : ℕ) (h : List Entry) (eui : DevEui) → IsRoster net → IsHistory net index h → (IsHome net index eui → ⊥) → acceptances h eui ≡ []
away-none net index h eui valid history away =
    filter-none (λ (a : Acceptance). same_device a.eui eui) joins (All-weaker (λ (a : Acceptance). IsHome net index a.eui) (λ (a : Acceptance). same_device a.eui eui ≡ false) other joins
    (all_both (λ (a : Acceptance). shard_of a.eui ≡ index) (λ (a : Acceptance). IsSome (device net a.eui)) joins (said-of index h history.own) (all-known net valid h history.legal)))
  where
    joins : List Acceptance
    joins = filter_map (λ (e : Entry). acceptance_in e.call e.reply) h

    other : (a : Acceptance) → IsHome net index a.eui → same_device a.eui eui ≡ false
    other a home = false_from_ne_true (same_device a.eui eui) (λ same. away (subst (IsHome net index) (same_device-eq a.eui eui same) home))

-- ---- live sessions

-- a device of which no join was accepted has no session
none-live : (h : List Entry) (eui : DevEui) (s : ℕ) → acceptances h eui ≡ [] → (xs : List ℕ) → AllByRecursion (λ x. IsSome (session_join h eui x)) xs → list_any (λ x. x == s) xs ≡ false
none-live h eui s none [] all = refl
none-live h eui s none (x ∷ xs) all =
    let gone : session_join h eui x ≡ None = ap (λ joins. option_map (λ (a : Acceptance). a.join_ans) (find (λ (a : Acceptance). a.session == x) joins)) none in
    absurd (cc (subst (λ (o : Option JoinAns). IsSome o) gone all.0))

found-more : (b later : Bool) (y : Session) (o : Option Session) → is_some o ≡ later → is_some (cond {A = Option Session} b (Some y) o) ≡ (b || later)
found-more true later y o is = refl
found-more false later y o is = is

-- the sessions of a device's record are those that live
found-live : (h : List Entry) (eui : DevEui) (s : ℕ) (xs : List ℕ) → AllByRecursion (λ x. IsSome (session_join h eui x)) xs →
    is_some (find (λ (y : Session). y.number == s) (filter_map (session_record h eui) xs)) ≡ list_any (λ x. x == s) xs
found-live h eui s [] all = refl
found-live h eui s (x ∷ xs) all =
    let (join, is) = some-of (session_join h eui x) all.0 in
    rw is (found-more (x == s) (list_any (λ z. z == s) xs) _ (find (λ (y : Session). y.number == s) (filter_map (session_record h eui) xs)) (found-live h eui s xs all.1))

-- ---- open tickets

any-mapped : (h : List Entry) (t : Ticket) (ts : List Ticket) → list_any (λ (o : OpenTicket). same_ticket t o.ticket) (map (ticket_record h) ts) ≡ list_any (same_ticket t) ts
any-mapped h t [] = refl
any-mapped h t (u ∷ ts) = ap (λ b. same_ticket t u || b) (any-mapped h t ts)

-- ---- a device is found among the shard's, or is none of the shard's

found-or_away : (net : Network) (index : ℕ) (h : List Entry) (eui : DevEui) →
    ((d : Device) × (own_of eui (devices_in net index h) ≡ Some (own_in net h d)) × (d.eui ≡ eui)) ⊎ ((own_of eui (devices_in net index h) ≡ None) × (IsHome net index eui → ⊥))
found-or_away net index h eui =
    elim (bool_tells (shard_of eui == index)) [
      | inl mine ↦ step (device net eui) refl (eqb-true (shard_of eui) index mine)
      | inr foreign ↦ inr (foreign-none net index h eui foreign, λ home. false≢true (sym foreign ∙ eq-eqb (shard_of eui) index home.0))
    ]
  where
    step : (x : Option Device) → device net eui ≡ x → shard_of eui ≡ index →
        ((d : Device) × (own_of eui (devices_in net index h) ≡ Some (own_in net h d)) × (d.eui ≡ eui)) ⊎ ((own_of eui (devices_in net index h) ≡ None) × (IsHome net index eui → ⊥))
    step None is mine = inr (own-found net index h eui mine ∙ ap (option_map (own_in net h)) is, λ home. cc (subst (λ (o : Option Device). IsSome o) is home.1))
    step (Some d) is mine = inl (d, own-found net index h eui mine ∙ ap (option_map (own_in net h)) is, (found-device net eui d is).1)

module _ (net : Network) (index : ℕ) (h : List Entry) (valid : IsRoster net) (history : IsHistory net index h) where
  pub lives-told : (eui : DevEui) (s : ℕ) → lives_in (devices_in net index h) eui s ≡ is_live h eui s
  unfolding device_record
  lives-told eui s =
      let joins = (sessions_have_joins net h history.legal).of_live in
      elim (found-or_away net index h eui) [
        | inl found ↦
            ap (λ x. option_map_or (λ (o : Own). is_some (session_in o.state s)) x false) found.1
            ∙ (ap (λ e. is_some (session_in (device_record net h e) s)) found.2
            ∙ found-live h eui s (live h eui) (joins eui))
        | inr away ↦
            ap (λ x. option_map_or (λ (o : Own). is_some (session_in o.state s)) x false) away.0
            ∙ sym (none-live h eui s (away-none net index h eui valid history away.1) (live h eui) (joins eui))
      ]

  pub tickets-told : (t : Ticket) → has_ticket_in (devices_in net index h) t ≡ is_ticket_open h t
  unfolding device_record
  tickets-told t =
      elim (found-or_away net index h (dev_eui t)) [
        | inl found ↦
            ap (λ x. option_map_or (λ (o : Own). list_any (λ (y : OpenTicket). same_ticket t y.ticket) o.state.tickets) x false) found.1
            ∙ (ap (λ e. list_any (λ (y : OpenTicket). same_ticket t y.ticket) (map (ticket_record h) (tickets_of h e))) found.2
            ∙ (any-mapped h t (tickets_of h (dev_eui t)) ∙ list_any-own (λ (u : Ticket). same_device (dev_eui u) (dev_eui t)) (same_ticket t) (λ u foreign. other_device (dev_eui t) t u (same_device-refl (dev_eui t)) foreign) (open_tickets h)))
        | inr away ↦
            ap (λ x. option_map_or (λ (o : Own). list_any (λ (y : OpenTicket). same_ticket t y.ticket) o.state.tickets) x false) away.0
            ∙ sym (closed away.1)
      ]
    where
      closed : (IsHome net index (dev_eui t) → ⊥) → is_ticket_open h t ≡ false
      closed away =
          false_from_ne_true (is_ticket_open h t) (λ there.
          away (open-own net index h (call.JoinReply t outcome.Failed) valid history there, open-known net h t valid history.legal there))
