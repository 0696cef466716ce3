-- The parts of a shard after a call, before its entry and with it.
use Rattle.std.proofs.Common.{◌≡◌, ℕ, ◌+◌, ◌≤◌, ◌<◌, true, false, cond, Bool, List, [], ◌∷◌, ◌++◌, length, Option, None, Some, Result, Ok, Err, IfOk, refl, sym, ap, ap₂, subst, ◌∙◌, arith}
use Rattle.std.specs.Option.{is_some}
use Rattle.std.specs.Result.{OnErr}
use Rattle.std.specs.Arc.{arc_value}
use Rattle.std.specs.declared.alloc.AllocError.{AllocError}
use Rattle.ns_types.specs.declared.heard.Heard.{Heard}
use Rattle.ns_types.specs.declared.ticket.Ticket.{Ticket}
use Rattle.ns_types.specs.Identity.{shard_count}
use Rattle.ns_roster.specs.Network.{Network}
use Rattle.ns_calls.specs.declared.call.Call.{Call}
use Rattle.ns_calls.specs.declared.call.Call.TheVariants as call
use Rattle.ns_calls.specs.declared.answer.Answer.{Answer}
use Rattle.ns_calls.specs.Out.{answer}
use Rattle.ns_calls.specs.declared.call.Reply.{Reply}
use Rattle.ns_calls.specs.declared.call.Entry.{Entry}
use Rattle.ns_calls.specs.Reply.{reply_to}
use Rattle.ns_calls.specs.Legal.{with_call}
use Rattle.ns_calls.specs.Shards.{shard_of_call}
use Rattle.ns_sessions.proofs.Uplinks.{others_stay, uplinks_agree}
use Rattle.ns_sessions.proofs.Joins.{joins_agree}
use Rattle.ns_windows.specs.declared.window.Window.{Window}
use Rattle.ns_devices.specs.declared.own.Own.{Own}
use Rattle.ns_devices.specs.Devices.{with_join_of}
use Rattle.ns_journal.specs.State.{JournalState, next_entry}
use Rattle.ns_shard.specs.declared.parts.Parts.{Parts}
use Rattle.ns_shard.specs.declared.event.Event.{Event}
use Rattle.ns_shard.specs.declared.event.Ended.{Ended}
use Rattle.ns_shard.specs.declared.event.Event.TheVariants as event
use Rattle.ns_shard.specs.declared.room.Room.{Room}
use Rattle.ns_shard.specs.Private.Sending.{reply_of, answer_of}
use Rattle.ns_shard.specs.Private.Reaction.{uplink_reply, shard_join_reply}
use Rattle.ns_shard.specs.Private.Uplink.{UplinkEnds}
use Rattle.ns_shard.specs.State.{State, Keeps, quiet, seen, ends_open, finds_open, answer_in, after_call}
use Rattle.ns_shard.specs.Private.Room.{opens, opening_event, open_total, room_of, IsRoomFor, reserved_after}
use Rattle.ns_shard.specs.Private.Parts.{Agrees, AreParts, AreTaken, state_of}
use Rattle.ns_shard.proofs.Entries.{pushed-is, answer-is, finds_open-is, keeps-more}
use Rattle.ns_shard.proofs.PartSteps.{ended_or, join-replied, agrees-join}
use Rattle.ns_shard.proofs.UplinkSteps.{uplink-replied, agrees-uplink}
use Rattle.ns_shard.proofs.Totals.{is_some-none, total-after}
use Rattle.ns_shard.proofs.Endings.{IsEnding, open-own}

-- ---- with the entry

-- the state of parts whose journal has the entry
pub pushed-state : (p : Parts) (c : Call) (e : Event) (j : JournalState) → AreTaken p c e → (r : Reply) → r ≡ reply_of e → j.made ≡ p.journal.made + 1 → j.entries ≡ p.journal.entries ++ next_entry p.journal c r ∷ [] → state_of (record p { journal = j }) ≡ after_call (state_of p) c
pushed-state p c e j taken r is made entries =
    ap₂ (λ (n : ℕ) (es : List Entry). let s : State = record { roster = arc_value p.roster; index = p.index; made = n; mark = p.mark; windows = p.named.items; entries = es } in s) made
    (pushed-is (arc_value p.roster) (seen (state_of p)) p.journal j.entries c r (is ∙ ap (λ (a : Answer). a.reply) taken.answer) entries)

pub pushed-parts : (p : Parts) (c : Call) (e : Event) (j : JournalState) → AreTaken p c e → (k : Room) → k ≡ room_of e → state_of (record p { journal = j }) ≡ after_call (state_of p) c → j.reserved ≡ reserved_after k p.journal.reserved → AreParts (record p { journal = j })
pushed-parts p c e j taken k is state reserved =
    let now : List Entry = with_call (arc_value p.roster) taken.history (length taken.history) c in
    record {
      small = taken.small;
      history = now;
      keeps = subst (Keeps now) (sym state) (keeps-more taken.history (state_of p) c taken.keeps);
      agrees = taken.agrees;
      reserved = reserved ∙ (ap (λ (b : Room). reserved_after b p.journal.reserved) is ∙ taken.reserved);
    }

-- ---- before it

-- the parts with other room
pub same-state : (p : Parts) (j : JournalState) → j.made ≡ p.journal.made → j.entries ≡ p.journal.entries → state_of (record p { journal = j }) ≡ state_of p
same-state p j made entries = ap₂ (λ (n : ℕ) (es : List Entry). let s : State = record { roster = arc_value p.roster; index = p.index; made = n; mark = p.mark; windows = p.named.items; entries = es } in s) made entries

-- the history after a call
abbrev pub history-after : (p : Parts) → AreParts p → Call → List Entry
history-after p are c = with_call (arc_value p.roster) are.history (length are.history) c

-- how many are open then
total-by : (p : Parts) (are : AreParts p) (c : Call) (r : Reply) (ended opened : Bool) → r ≡ reply_to (arc_value p.roster) are.history c → ends_open are.history c ≡ ended → opens c r ≡ opened
    → open_total (history-after p are c) + cond ended 1 0 ≡ p.journal.reserved + cond opened 1 0
total-by p are c r ended opened is ends begins =
    let total = total-after (arc_value p.roster) are.history (length are.history) c are.agrees.history.legal in
    let over = ap (λ b. cond {A = ℕ} b 1 0) ends in
    let begun = ap (λ b. cond {A = ℕ} b 1 0) (ap (opens c) (sym is) ∙ begins) in
    let kept = are.reserved in
    omega (arith, total, over, begun, kept)

module _ (p q : Parts) (are : AreParts p) (c : Call) (same : state_of q ≡ state_of p) (agrees : Agrees (arc_value p.roster) p.index (history-after p are c) q.devices q.windows) (kept : q.journal.reserved ≡ p.journal.reserved) where
  -- by the answer and the room
  taken-by : (e : Event) → answer_of (arc_value p.roster) e ≡ answer (arc_value p.roster) are.history c → IsRoomFor (room_of e) q.journal → reserved_after (room_of e) q.journal.reserved ≡ open_total (history-after p are c) → AreTaken q c e
  taken-by e told room reserved = record {
    small = subst (λ (s : State). s.index < shard_count) (sym same) are.small;
    history = are.history;
    keeps = subst (Keeps are.history) (sym same) are.keeps;
    agrees = subst (λ (s : State). Agrees s.roster s.index (with_call s.roster are.history (length are.history) c) q.devices q.windows) (sym same) agrees;
    answer = subst (λ (s : State). answer_of s.roster e ≡ answer_in s c) (sym same) (told ∙ sym (answer-is are.history (state_of p) c are.keeps));
    room = room;
    reserved = subst (λ (s : State). reserved_after (room_of e) q.journal.reserved ≡ open_total (with_call s.roster are.history (length are.history) c)) (sym same) reserved;
  }

  -- an uplink or a Join-Request
  pub opening-taken : (r : Reply) → quiet r ≡ answer (arc_value p.roster) are.history c → ends_open are.history c ≡ false → q.journal.reserved + 2 ≤ q.journal.room → AreTaken q c (opening_event c r)
  opening-taken r told ends room = step (opens c r) (total-by p are c r false (opens c r) (ap (λ (a : Answer). a.reply) told) ends refl)
    where
      step : (b : Bool) → open_total (history-after p are c) + 0 ≡ p.journal.reserved + cond b 1 0 → AreTaken q c (cond b (event.Opened r) (event.Quiet r))
      step true total = taken-by (event.Opened r) told room (omega (arith, total, kept))
      step false total = taken-by (event.Quiet r) told (omega (arith, room)) (omega (arith, total, kept))

  -- an answer or a closing that ends something
  pub ended-taken : (x : Ended) → answer_of (arc_value p.roster) (event.Ended x) ≡ answer (arc_value p.roster) are.history c → ends_open are.history c ≡ true → ((r : Reply) → opens c r ≡ false) → AreTaken q c (event.Ended x)
  ended-taken x told ends opens_none =
      let r : Reply = reply_of (event.Ended x) in
      let total = total-by p are c r true false (ap (λ (a : Answer). a.reply) told) ends (opens_none r) in
      taken-by (event.Ended x) told (omega (arith, total, kept)) (omega (arith, total, kept))

  -- one that finds nothing open
  pub unopened-taken : (r : Reply) → quiet r ≡ answer (arc_value p.roster) are.history c → ends_open are.history c ≡ false → ((x : Reply) → opens c x ≡ false) → q.journal.reserved + 1 ≤ q.journal.room → AreTaken q c (event.Quiet r)
  unopened-taken r told ends opens_none room =
      let total = total-by p are c r false false (ap (λ (a : Answer). a.reply) told) ends (opens_none r) in
      taken-by (event.Quiet r) told (omega (arith, room)) (omega (arith, total, kept))

-- ---- uplinks and Join-Requests

module _ (p : Parts) (are : AreParts p) (j : JournalState) (made : j.made ≡ p.journal.made) (entries : j.entries ≡ p.journal.entries) (kept : j.reserved ≡ p.journal.reserved) where
  pub uplink-taken : (frame : List ℕ) (heard : Heard) → shard_of_call (call.Uplink frame heard) ≡ p.index → j.reserved + 2 ≤ j.room → (ds : List Own) (ws : List Window) (r : Result Event AllocError) → UplinkEnds frame heard p.devices p.windows (uplink_reply p.devices p.windows frame) r ds ws
      → IfOk r (AreTaken (record p { devices = ds; windows = ws; journal = j }) (call.Uplink frame heard))
  uplink-taken frame heard own room ds ws (Err e) told = tt
  uplink-taken frame heard own room ds ws (Ok e) told =
      let net : Network = arc_value p.roster in
      let c : Call = call.Uplink frame heard in
      let q : Parts = record p { devices = ds; windows = ws; journal = j } in
      let reply : Reply = uplink_reply p.devices p.windows frame in
      let replied = uplink-replied net p.index are.history p.devices p.windows frame are.agrees (uplinks_agree net are.history) own in
      let agrees : Agrees net p.index (history-after p are c) ds ws =
      rw (told.devices, told.windows) (agrees-uplink net p.index are.history p.devices p.windows frame heard are.agrees others_stay (uplinks_agree net are.history) own reply (sym replied)) in
      subst (AreTaken q c) (sym told.event) (opening-taken p q are c (same-state p j made entries) agrees kept reply (ap quiet replied) refl room)

  pub join-taken : (t : Ticket) (heard : Heard) → shard_of_call (call.Join t heard) ≡ p.index → j.reserved + 2 ≤ j.room → {ds : List Own} (e : Event) → reply_of e ≡ shard_join_reply p.devices t → e ≡ opening_event (call.Join t heard) (reply_of e)
      → ds ≡ with_join_of t heard p.devices → AreTaken (record p { devices = ds; journal = j }) (call.Join t heard) e
  join-taken t heard own room {ds} e reply opened devices =
      let net : Network = arc_value p.roster in
      let c : Call = call.Join t heard in
      let q : Parts = record p { devices = ds; journal = j } in
      let replied = reply ∙ join-replied net p.index are.history p.devices p.windows t are.agrees (joins_agree net are.history) own in
      let agrees : Agrees net p.index (history-after p are c) ds p.windows = rw devices (agrees-join net p.index are.history p.devices p.windows t heard are.agrees others_stay (joins_agree net are.history) own) in
      subst (AreTaken q c) (sym opened) (opening-taken p q are c (same-state p j made entries) agrees kept (reply_of e) (ap quiet replied) refl room)

  -- where a growth is refused, all is as it was
  pub uplink-refused : (frame : List ℕ) (heard : Heard) (reply : Reply) (ds : List Own) (ws : List Window) (r : Result Event AllocError) → UplinkEnds frame heard p.devices p.windows reply r ds ws → OnErr r (AreParts (record p { devices = ds; windows = ws; journal = j }))
  uplink-refused frame heard reply ds ws (Ok e) told = tt
  uplink-refused frame heard reply ds ws (Err e) told = rw (told.devices, told.windows) (record { small = are.small; history = are.history; keeps = subst (Keeps are.history) (sym (same-state p j made entries)) are.keeps; agrees = are.agrees; reserved = kept ∙ are.reserved })

-- ---- answers and closings

module _ (p : Parts) (are : AreParts p) {c : Call} {what : Option Ended} {r : Reply} {ds : List Own} {ws : List Window} (is : IsEnding (arc_value p.roster) p.index are.history p.devices p.windows c what r ds ws) where
  pub ending-open : is_some what ≡ finds_open (state_of p) c
  ending-open = is.ends ∙ sym (finds_open-is are.history (state_of p) c are.keeps)

  pub ending-taken : (x : Ended) → Some x ≡ what → AreTaken (record p { devices = ds; windows = ws }) c (event.Ended x)
  ending-taken x some =
      let found : ends_open are.history c ≡ true = sym is.ends ∙ sym (ap (λ (o : Option Ended). is_some o) some) in
      let own = open-own (arc_value p.roster) p.index are.history c are.agrees.valid are.agrees.history found in
      ended-taken p (record p { devices = ds; windows = ws }) are c refl (is.agrees own) refl x (ap (ended_or (arc_value p.roster) r) some ∙ is.told own) found is.opens_none

  pub ending-none : None ≡ what → AreParts (record p { devices = ds; windows = ws })
  ending-none none =
      let closed : ends_open are.history c ≡ false = sym is.ends ∙ sym (ap (λ (o : Option Ended). is_some o) none) in
      rw (is.devices_stay closed, is.windows_stay closed) are

  -- where nothing is open, the parts with room for the entry
  pub ending-unopened : (j : JournalState) → state_of (record p { journal = j }) ≡ state_of p → j.reserved ≡ p.journal.reserved → j.reserved + 1 ≤ j.room → shard_of_call c ≡ p.index → finds_open (state_of p) c ≡ false → AreTaken (record p { journal = j }) c (event.Quiet r)
  ending-unopened j same kept room own none =
      let closed : ends_open are.history c ≡ false = sym (finds_open-is are.history (state_of p) c are.keeps) ∙ none in
      let told : quiet r ≡ answer (arc_value p.roster) are.history c = ap (ended_or (arc_value p.roster) r) (sym (is_some-none what (is.ends ∙ closed))) ∙ is.told own in
      let agrees = rw (is.devices_stay closed, is.windows_stay closed) at (is.agrees own) in
      unopened-taken p (record p { journal = j }) are c same agrees kept r told closed is.opens_none room
