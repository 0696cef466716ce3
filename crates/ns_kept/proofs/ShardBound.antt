-- A trim of a shard's history keeps 208 entries for each of its devices at most.
use Rattle.std.proofs.Common.{◌≡◌, ℕ, ◌*◌, ◌≤◌, ◌==◌, Bool, true, false, ◌||◌, ◌&&◌, List, length, filter, filter_map, count_by, Option, None, Some, option_map, refl, sym, ap, subst, ◌∙◌, arith, inl, inr}
use Rattle.std.specs.List.{AllByRecursion, list_any}
use Rattle.std.specs.Option.{option_map_or}
use Rattle.std.proofs.lemmas.Bool.{and_parts, eq-eqb, true_from_ne_false, both_ways}
use Rattle.std.proofs.lemmas.Option.{same_Some, none-some}
use Rattle.ns_types.specs.declared.identity.DevEui.{DevEui}
use Rattle.ns_types.specs.declared.identity.WindowName.{WindowName}
use Rattle.ns_types.specs.declared.heard.Heard.{Heard}
use Rattle.ns_types.specs.declared.ticket.Ticket.{Ticket}
use Rattle.ns_types.specs.Identity.{shard_of, same_window}
use Rattle.ns_types.specs.Ticket.{dev_eui, join_eui}
use Rattle.ns_views.specs.Frame.{data_fields}
use Rattle.ns_roster.specs.declared.Device.{Device}
use Rattle.ns_roster.specs.Network.{Network, device_addr, is_known}
use Rattle.ns_roster.specs.Valid.{IsRoster}
use Rattle.ns_calls.specs.declared.call.Call.{Call}
use Rattle.ns_calls.specs.declared.call.Call.TheVariants as call
use Rattle.ns_calls.specs.declared.call.Reply.{Reply}
use Rattle.ns_calls.specs.declared.call.Entry.{Entry}
use Rattle.ns_calls.specs.Entries as entries
use Rattle.ns_calls.specs.Entries.{Acceptance, Opening, Closing, same_device, accepted, closed, first_opened, Said, said}
use Rattle.ns_calls.specs.History.{same_ticket, next_session, open_tickets, is_ticket_open, copied, join_copied}
use Rattle.ns_calls.proofs.Says.{acceptance_in, window_in, closing_in, window_copy_in, ticket_copy_in, uplink-says, join-says, answer-says, close-says}
use Rattle.ns_calls.specs.Reply.{reply_to, address}
use Rattle.ns_calls.specs.Headline.{nonce_at_or_above}
use Rattle.ns_calls.specs.Legal.{IsLegal, IsHistory, entry_for}
use Rattle.ns_calls.specs.Shards.{shard_of_call, NamesOwnDevice, device_in}
use Rattle.ns_calls.specs.Laws.{opening_count, closing_count, WindowsOpenOnce}
use Rattle.ns_calls.proofs.Lists.{All-weaker, at_some}
use Rattle.ns_calls.proofs.LocalLemmas.{All-each}
use Rattle.ns_calls.proofs.Induction.{legal_induction}
use Rattle.ns_calls.proofs.JoinLemmas.{same_device-eq, accepted-cases, join-has}
use Rattle.ns_calls.proofs.KnownLemmas.{tickets_known}
use Rattle.ns_calls.proofs.TicketLemmas.{same_ticket-eq}
use Rattle.ns_calls.proofs.RoundLemmas.{opened}
use Rattle.ns_calls.proofs.NameLemmas.{same_window-eq}
use Rattle.ns_calls.proofs.WindowLemmas.{windows_open_once}
use Rattle.ns_calls.proofs.Merges.{replies_name_own_devices, by_place, at_place}
use Rattle.ns_kept.specs.Kept.{whole, keeps_acceptance, keeps_opening, keeps_repetition, keeps_closing, keeps_window_copy, keeps_ticket_copy, is_kept, filter_before, keep, repeated}
use Rattle.ns_kept.specs.Bound.{device_of, is_of}
use Rattle.ns_kept.proofs.Within.{AllEnds, any-weaker, any-filter, passed-one}
use Rattle.ns_kept.proofs.ReadLemmas.{reading-whole}
use Rattle.ns_kept.proofs.Dropped.{same_device-refl}
use Rattle.ns_kept.proofs.Later.{said-more, each-some, counted, each-said, closing-counted, copied-opened, opens-own, any-filtered}
use Rattle.ns_kept.proofs.Tally.{tally, times, AllEnds-of, tally-keys-at, length-tally, count-tally, times-all}
use Rattle.ns_kept.proofs.BoundLemmas.{acceptance-device, opening-device, repetition-device, closing-device, window-device, ticket-device, kept-at-most}
use Rattle.ns_kept.proofs.Says.{opening-window, repetition-window, said_one, says_so}
use Rattle.std.proofs.lemmas.List.Sums.{length-filter}

-- the roster has the device
abbrev has_device : Network → DevEui → Bool
has_device net eui = list_any (λ d. same_device d.eui eui) net.devices

known-device : (net : Network) (t : Ticket) → is_known net (dev_eui t) (join_eui t) ≡ true → has_device net (dev_eui t) ≡ true
known-device net t is =
    any-weaker (λ (d : Device). (d.eui.0 == (dev_eui t).0) && (d.join_eui.0 == (join_eui t).0)) (λ (d : Device). same_device d.eui (dev_eui t))
    (λ d both. (and_parts (d.eui.0 == (dev_eui t).0) (d.join_eui.0 == (join_eui t).0) both).0) net.devices is

-- ---- what entries say is of the roster's devices

accepted-known : (net : Network) (g : List Entry) → IsLegal net g → (c : Call) (a : Acceptance) → acceptance_in c (reply_to net g c) ≡ Some a → has_device net a.eui ≡ true
accepted-known net g legal (call.JoinReply t o) a is =
    elim (accepted-cases t o (is_ticket_open g t) (nonce_at_or_above net g t) (dev_eui t) (next_session g (dev_eui t)) (address net (dev_eui t))) [
      | inl none ↦ absurd (none-some a (sym none ∙ is))
      | inr found ↦
          (let same : Some (dev_eui t) ≡ Some a.eui = ap (option_map (λ (x : Acceptance). x.eui)) (sym found.4 ∙ is) in
          let device : dev_eui t ≡ a.eui = same_Some (dev_eui t) a.eui same in
          let one = passed-one (λ (u : Ticket). is_known net (dev_eui u) (join_eui u) ≡ true) (same_ticket t) (open_tickets g) (tickets_known net g legal) found.2 in
          let known : is_known net (dev_eui t) (join_eui t) ≡ true = subst (λ (u : Ticket). is_known net (dev_eui u) (join_eui u) ≡ true) (sym (same_ticket-eq t one.0 one.2)) one.1 in
          subst (λ (d : DevEui). has_device net d ≡ true) device (known-device net t known))
    ]
accepted-known net g legal (call.Uplink frame heard) a is =
    absurd (none-some a (sym (uplink-says (λ s. accepted s ≡ None) frame heard (λ w. refl) (λ w. refl) (λ w. refl) refl (reply_to net g (call.Uplink frame heard))) ∙ is))
accepted-known net g legal (call.Join t heard) a is = absurd (none-some a (sym (join-says (λ s. accepted s ≡ None) t heard refl refl refl (reply_to net g (call.Join t heard))) ∙ is))
accepted-known net g legal (call.Close w) a is = absurd (none-some a (sym (close-says (λ s. accepted s ≡ None) w (λ ack. refl) refl (reply_to net g (call.Close w))) ∙ is))

opened-known : (net : Network) (g : List Entry) → IsLegal net g → (c : Call) (o : Opening) → window_in c (reply_to net g c) ≡ Some o → has_device net o.window.eui ≡ true
opened-known net g legal c o says =
    let own = opens-own net g legal c o says in
    true_from_ne_false _ (λ none.
    both_ways _ (any-filtered (λ (d : Device). d.eui.0 == o.window.eui.0) (λ (d : Device). (device_addr net d).0 == (data_fields own.frame).addr) net.devices none) own.device)

-- a Join-Request of a device that the roster doesn't have is no copy
asked-known : (net : Network) (g : List Entry) (c : Call) (x : Ticket × Heard) → ticket_copy_in c (reply_to net g c) ≡ Some x → has_device net (dev_eui x.0) ≡ true
asked-known net g (call.Join t heard) x is = join-has (λ r. ticket_copy_in (call.Join t heard) r ≡ Some x → has_device net (dev_eui x.0) ≡ true) net g t (record {
  unknown = λ unknown says. absurd (cc says);
  old = λ known greatest says. absurd (cc says);
  copied = λ known room. own known;
  crowded = λ says. absurd (cc says);
  busy = λ says. absurd (cc says);
  ask = λ known closed room. own known;
}) is
  where
    own : is_known net (dev_eui t) (join_eui t) ≡ true → Some (t, heard) ≡ Some x → has_device net (dev_eui x.0) ≡ true
    own known says = subst (λ (u : Ticket). has_device net (dev_eui u) ≡ true) (ap (λ (z : Ticket × Heard). z.0) (same_Some (t, heard) x says)) (known-device net t known)
asked-known net g (call.Uplink frame heard) x is =
    absurd (none-some x (sym (uplink-says (λ s. join_copied s ≡ None) frame heard (λ w. refl) (λ w. refl) (λ w. refl) refl (reply_to net g (call.Uplink frame heard))) ∙ is))
asked-known net g (call.JoinReply t o) x is = absurd (none-some x (sym (answer-says (λ s. join_copied s ≡ None) t o (λ n. refl) refl refl (reply_to net g (call.JoinReply t o))) ∙ is))
asked-known net g (call.Close w) x is = absurd (none-some x (sym (close-says (λ s. join_copied s ≡ None) w (λ ack. refl) refl (reply_to net g (call.Close w))) ∙ is))

-- what each legal call says has a property, so all that a legal history says has it
all-said : {Y : Type 0} (net : Network) (says : Said → Option Y) (P : Y → Type 0) → ((g : List Entry) → IsLegal net g → (c : Call) (y : Y) → says (said c (reply_to net g c)) ≡ Some y → P y) → (h : List Entry) → IsLegal net h → AllByRecursion P (filter_map (λ e. says (said e.call e.reply)) h)
all-said {Y} net says P each h legal =
    legal_induction net (λ g. AllByRecursion P (filter_map (λ (e : Entry). says (said e.call e.reply)) g)) tt
    (λ g number c ok all. said-more P (λ (e : Entry). says (said e.call e.reply)) g (entry_for net g number c) all (each-some P (says (said c (reply_to net g c))) (λ y is. each g ok c y is))) h legal

-- each kept entry is of a device of the roster
record Placed (net : Network) (e : Entry) : Type 0 where
  acceptance : (a : Acceptance) → acceptance_in e.call e.reply ≡ Some a → has_device net a.eui ≡ true
  window : (o : Opening) → window_in e.call e.reply ≡ Some o → has_device net o.window.eui ≡ true
  closing : (c : Closing) → closing_in e.call e.reply ≡ Some c → has_device net c.window.eui ≡ true
  window_copy : (c : WindowName × Heard) → window_copy_in e.call e.reply ≡ Some c → has_device net c.0.eui ≡ true
  ticket_copy : (c : Ticket × Heard) → ticket_copy_in e.call e.reply ≡ Some c → has_device net (dev_eui c.0) ≡ true

placed : (net : Network) (h : List Entry) → IsLegal net h → AllByRecursion (Placed net) h
placed net h legal =
    let once : WindowsOpenOnce h = windows_open_once net h legal in
    let known : AllByRecursion (λ (o : Opening). has_device net o.window.eui ≡ true) (opened h) =
    all-said net entries.opened (λ (o : Opening). has_device net o.window.eui ≡ true) (λ g ok c o says. opened-known net g ok c o says) h legal in
    let of_window : (w : WindowName) → 1 ≤ opening_count h w → has_device net w.eui ≡ true = λ w some.
    (let found = counted (λ (o : Opening). has_device net o.window.eui ≡ true) (λ (o : Opening). same_window o.window w) (opened h) known some in
    subst (λ (v : WindowName). has_device net v.eui ≡ true) (same_window-eq found.0.window w found.2) found.1) in
    let closings : AllByRecursion (λ (c : Closing). has_device net c.window.eui ≡ true) (filter_map (λ (e : Entry). closing_in e.call e.reply) h) =
    All-weaker (λ (c : Closing). 1 ≤ closing_count h c.window) (λ (c : Closing). has_device net c.window.eui ≡ true)
    (λ c some. (let sums = once.closes c.window in let opens : 1 ≤ opening_count h c.window = omega (arith, some, sums) in of_window c.window opens)) _ (closing-counted h) in
    let copies : AllByRecursion (λ (c : WindowName × Heard). has_device net c.0.eui ≡ true) (filter_map (λ (e : Entry). window_copy_in e.call e.reply) h) =
    All-weaker (λ (c : WindowName × Heard). 1 ≤ opening_count h c.0) (λ (c : WindowName × Heard). has_device net c.0.eui ≡ true) (λ c some. of_window c.0 some) _ (copied-opened net h legal) in
    by_place (Placed net) h (λ n e at. record {
      acceptance = at_place _ h (each-said (λ (a : Acceptance). has_device net a.eui ≡ true) (λ (x : Entry). acceptance_in x.call x.reply) h (all-said net accepted (λ (a : Acceptance). has_device net a.eui ≡ true) (λ g ok c a says. accepted-known net g ok c a says) h legal)) n e at;
      window = at_place _ h (each-said (λ (o : Opening). has_device net o.window.eui ≡ true) (λ (x : Entry). window_in x.call x.reply) h known) n e at;
      closing = at_place _ h (each-said (λ (c : Closing). has_device net c.window.eui ≡ true) (λ (x : Entry). closing_in x.call x.reply) h closings) n e at;
      window_copy = at_place _ h (each-said (λ (c : WindowName × Heard). has_device net c.0.eui ≡ true) (λ (x : Entry). window_copy_in x.call x.reply) h copies) n e at;
      ticket_copy = at_place _ h (each-said (λ (c : Ticket × Heard). has_device net (dev_eui c.0) ≡ true) (λ (x : Entry). ticket_copy_in x.call x.reply) h (all-said net join_copied (λ (c : Ticket × Heard). has_device net (dev_eui c.0) ≡ true) (λ g ok c x says. asked-known net g c x says) h legal)) n e at;
    })

-- the device of a kept entry
abbrev HasPlace : Network → Entry → Type 0
HasPlace net x = (eui : DevEui) × (device_of x.call x.reply ≡ Some eui) × (has_device net eui ≡ true)

one-place : {Y : Type 0} (net : Network) (x : Entry) (says : Said → Option Y) (device : Y → DevEui) (keeps : Y → Bool) → ((y : Y) → says (said x.call x.reply) ≡ Some y → device_of x.call x.reply ≡ Some (device y)) → ((y : Y) → says (said x.call x.reply) ≡ Some y → has_device net (device y) ≡ true) →
    option_map_or keeps (says (said x.call x.reply)) false ≡ true → HasPlace net x
one-place net x says device keeps names has is = (let one = said_one keeps (says (said x.call x.reply)) is in (device one.0, names one.0 one.1, has one.0 one.1))

one-way : {T : Type 0} (a b : Bool) → (a ≡ true → T) → (b ≡ true → T) → (a || b) ≡ true → T
one-way true b p q is = p refl
one-way false b p q is = q is

kept-place : (net : Network) (h : List Entry) (x : Entry) (xs : List Entry) → Placed net x → is_kept h x xs ≡ true → HasPlace net x
kept-place net h x xs at is =
    one-way _ _ (one-way _ _ (one-way _ _ (one-way _ _ (one-way _ _
    (one-place net x accepted (λ (a : Acceptance). a.eui) (keeps_acceptance h xs) (acceptance-device x.call x.reply) at.acceptance)
    (one-place net x first_opened (λ (o : Opening). o.window.eui) (keeps_opening h xs) (opening-device x.call x.reply) (λ o says. at.window o (opening-window x.call x.reply o says))))
    (one-place net x repeated (λ (o : Opening). o.window.eui) (keeps_repetition h xs) (repetition-device x.call x.reply) (λ o says. at.window o (repetition-window x.call x.reply o says))))
    (one-place net x closed (λ (c : Closing). c.window.eui) (keeps_closing h xs) (closing-device x.call x.reply) at.closing))
    (one-place net x copied (λ (c : WindowName × Heard). c.0.eui) (keeps_window_copy h) (window-device x.call x.reply) at.window_copy))
    (one-place net x join_copied (λ (c : Ticket × Heard). dev_eui c.0) (keeps_ticket_copy h xs) (ticket-device x.call x.reply) at.ticket_copy)
    is

-- ---- of one shard

own-shard : (c : Call) (r : Reply) → NamesOwnDevice c r → (eui : DevEui) → device_of c r ≡ Some eui → shard_of eui ≡ shard_of_call c
own-shard (call.Uplink frame heard) r names eui is = at_some (λ (d : DevEui). shard_of d ≡ shard_of_call (call.Uplink frame heard)) (device_in r) eui is names
own-shard (call.Join t heard) r names eui is = ap shard_of (sym (same_Some (dev_eui t) eui is))
own-shard (call.JoinReply t o) r names eui is = ap shard_of (sym (same_Some (dev_eui t) eui is))
own-shard (call.Close w) r names eui is = ap shard_of (sym (same_Some w.eui eui is))

abbrev devices_of : Network → ℕ → List Device
devices_of net k = filter (λ d. shard_of d.eui == k) net.devices

pub shard-keeps-at-most : (net : Network) → IsRoster net → (k : ℕ) (h : List Entry) → IsHistory net k h → (made : ℕ) → length (keep made (whole h)).entries ≤ 208 * count_by (λ d. shard_of d.eui == k) net.devices
shard-keeps-at-most net valid k h history made =
    let keys : List Device = devices_of net k in
    let ends : AllEnds (λ x xs. is_kept h x xs ≡ true → list_any (λ (d : Device). is_kept h x xs && is_of d.eui x) keys ≡ true) h =
    AllEnds-of (λ (e : Entry). Placed net e × ((eui : DevEui) → device_of e.call e.reply ≡ Some eui → shard_of eui ≡ k)) (λ x xs. is_kept h x xs ≡ true → list_any (λ (d : Device). is_kept h x xs && is_of d.eui x) keys ≡ true)
    (λ x xs both is.
    let place = kept-place net h x xs both.0 is in
    let eui : DevEui = place.0 in
    any-weaker (λ (d : Device). same_device d.eui eui) (λ (d : Device). is_kept h x xs && is_of d.eui x)
    (λ d same.
    let mine : is_of d.eui x ≡ true = says_so (λ (e : DevEui). same_device e d.eui) (device_of x.call x.reply) eui place.1 (subst (λ (e : DevEui). same_device eui e ≡ true) (sym (same_device-eq d.eui eui same)) (same_device-refl eui)) in
    ap (λ b. b && is_of d.eui x) is ∙ mine)
    keys
    (any-filter (λ (d : Device). same_device d.eui eui) (λ (d : Device). shard_of d.eui == k) (λ d same. eq-eqb (shard_of d.eui) k (ap shard_of (same_device-eq d.eui eui same) ∙ both.1 eui place.1)) net.devices place.2))
    h (by_place _ h (λ n e at. (at_place (Placed net) h (placed net h history.legal) n e at, (λ eui is. own-shard e.call e.reply (replies_name_own_devices net valid h history.legal n e at) eui is ∙ history.own n e at)))) in
    let each : AllByRecursion (λ (d : Device). tally (λ x xs. is_kept h x xs && is_of d.eui x) h ≤ 208) keys =
    All-each (λ (d : Device). tally (λ x xs. is_kept h x xs && is_of d.eui x) h ≤ 208)
    (λ d. (let is = count-tally (is_kept h) (is_of d.eui) h in let most = kept-at-most net h history.legal d.eui in omega (arith, is, most))) keys in
    let most : tally (is_kept h) h ≤ times 208 keys = tally-keys-at (λ (d : Device) x xs. is_kept h x xs && is_of d.eui x) 208 h keys (is_kept h) ends each in
    let as_many : times 208 keys ≡ 208 * length keys = times-all 208 keys in
    let counted_so : length keys ≡ count_by (λ (d : Device). shard_of d.eui == k) net.devices = length-filter (λ (d : Device). shard_of d.eui == k) net.devices in
    let is : length (filter_before (is_kept h) h) ≡ tally (is_kept h) h = length-tally (is_kept h) h in
    subst (λ (g : List Entry). length (filter_before (is_kept g) h) ≤ 208 * count_by (λ (d : Device). shard_of d.eui == k) net.devices) (sym (reading-whole h)) (omega (arith, most, as_many, counted_so, is))
