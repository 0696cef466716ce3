-- The reply to a call, and what goes out, rest on the entries of the call's shard alone.
use Rattle.std.proofs.Common.{◌≡◌, ℕ, ◌+◌, ◌==◌, Bool, true, false, ◌&&◌, cond, eqb, List, [], ◌∷◌, filter, filter_map, map, find, nat_lt, ◌^◌, bytes_eq, unwrap_or, Option, None, Some, IfSome, option_map, refl, ap, ◌∙◌}
use Rattle.std.specs.List.{AllByRecursion, list_any}
use Rattle.std.specs.Option.{option_and_then}
use Rattle.std.proofs.lemmas.Bool.{eq-eqb}
use Rattle.std.proofs.lemmas.Slice.Eq.{bytes_eq-Decides}
use Rattle.ns_types.specs.declared.identity.DevEui.{DevEui}
use Rattle.ns_types.specs.declared.identity.WindowName.{WindowName}
use Rattle.ns_types.specs.declared.heard.Heard.{Heard}
use Rattle.ns_types.specs.declared.ticket.Ticket.{Ticket}
use Rattle.ns_types.specs.Cases.{first_case, when}
use Rattle.ns_types.specs.Identity.{shard_of, same_window, is_first}
use Rattle.ns_types.specs.Ticket.{dev_eui}
use Rattle.ns_types.specs.Heard.{best}
use Rattle.ns_views.specs.Frame.{data_fields, is_confirmed}
use Rattle.ns_secure.specs.Counter.{above, below}
use Rattle.ns_roster.specs.Network.{Network}
use Rattle.ns_calls.specs.declared.call.JoinAns.{JoinAns}
use Rattle.ns_calls.specs.declared.call.Outcome.{Outcome}
use Rattle.ns_calls.specs.declared.call.Outcome.TheVariants as outcome
use Rattle.ns_calls.specs.declared.call.Call.{Call}
use Rattle.ns_calls.specs.declared.call.Call.TheVariants as call
use Rattle.ns_calls.specs.declared.call.Reply.{Reply}
use Rattle.ns_calls.specs.declared.call.Reply.TheVariants as reply
use Rattle.ns_calls.specs.declared.call.Entry.{Entry}
use Rattle.ns_calls.specs.declared.answer.Uplink.{Uplink}
use Rattle.ns_calls.specs.declared.answer.Downlink.{Downlink}
use Rattle.ns_calls.specs.Queries.{last, maximum}
use Rattle.ns_calls.specs.Entries.{Acceptance, Opening, Closing, acceptances, openings, open_windows}
use Rattle.ns_calls.specs.History.{closings, first_and_other, session_join, next_session, greatest_counter, open_window, window_copies, is_ticket_open}
use Rattle.ns_calls.specs.Reply.{Fit, window_of, first_fit, window_with, is_greatest, round_of, reply_to, reply_to_uplink, is_failed, address, ack_number}
use Rattle.ns_calls.specs.Headline.{nonce_at_or_above}
use Rattle.ns_calls.specs.Out.{payload_key, uplink_under, uplink_of, first_uplink_of, uplink_out, downlink_out, ack_at, ack_downlink, accept_at}
use Rattle.ns_calls.specs.Merges.{out}
use Rattle.ns_calls.specs.Legal.{IsLegal, entry_for}
use Rattle.ns_calls.specs.Shards.{shard_of_call, of_shard, NamesOwnDevice}
use Rattle.ns_calls.proofs.Lists.{All-push, find-has, find-passes, option_map-same, IfSome-weaker, at_some}
use Rattle.ns_calls.proofs.Induction.{legal_induction}
use Rattle.ns_calls.proofs.LocalJoin.{acceptances-own, ticket_copies-own, reply_to_join-own, reply_to_join_reply-own}
use Rattle.ns_calls.proofs.UplinkLemmas.{uplink-has, SaysSame, uplink-same}
use Rattle.ns_calls.proofs.JoinLemmas.{join_reply_by, join-has}
use Rattle.ns_calls.proofs.NameLemmas.{same_window-eq}
use Rattle.ns_calls.proofs.ShardLemmas.{Housed, AllHoused, IsOfItsFrame, InShard, shard_of_frame, openings-own, closings-own, window_copies-own, window_count-own, last_round-own, is_uplink_open-own, open_window-own, open_windows-framed, window_with-own, first_fit-own, first_fit-names}

-- ---- each reply names a device of its call's shard

-- the open window of an equal frame is of the shard of its address
window_with-names : (h : List Entry) → AllHoused h → (frame : List ℕ) → IfSome (window_with h frame) (λ o. shard_of o.window.eui ≡ shard_of_frame frame)
window_with-names h housed frame =
    IfSome-weaker (λ (o : Opening). IsOfItsFrame o × (bytes_eq o.frame frame ≡ true)) (λ (o : Opening). shard_of o.window.eui ≡ shard_of_frame frame) (window_with h frame)
    (λ o is. is.0 ∙ ap shard_of_frame ((bytes_eq-Decides o.frame frame).0 is.1)) (find-has IsOfItsFrame (λ (o : Opening). bytes_eq o.frame frame) (open_windows h) (open_windows-framed h housed))

names-uplink : (net : Network) → AllByRecursion (InShard net) net.devices → (h : List Entry) → AllHoused h → (frame : List ℕ) (heard : Heard) → NamesOwnDevice (call.Uplink frame heard) (reply_to net h (call.Uplink frame heard))
names-uplink net own h housed frame heard =
    let c : Call = call.Uplink frame heard in
    let Mine : Fit → Type 0 = λ f. shard_of f.eui ≡ shard_of_frame frame in
    let mine : (recover : Option ℕ → ℕ → Option ℕ) (f : Fit) → first_fit recover net h frame ≡ Some f → Mine f = λ recover f is. at_some Mine (first_fit recover net h frame) f is (first_fit-names recover net own h frame) in
    let framed : (o : Opening) → window_with h frame ≡ Some o → shard_of o.window.eui ≡ shard_of_frame frame = λ o is. at_some (λ (x : Opening). shard_of x.window.eui ≡ shard_of_frame frame) (window_with h frame) o is (window_with-names h housed frame) in
    uplink-has (NamesOwnDevice c) net h frame (record {
      copied = λ o is room. framed o is;
      crowded = λ o is full. framed o is;
      opened = λ f none is room. mine above f is;
      again = λ f round none is confirmed next room. mine below f is;
      busy = mine;
      old = mine below;
      none = tt;
    })

names-join : (net : Network) (h : List Entry) (t : Ticket) (heard : Heard) → NamesOwnDevice (call.Join t heard) (reply_to net h (call.Join t heard))
names-join net h t heard = join-has (NamesOwnDevice (call.Join t heard)) net h t (record {
  unknown = λ unknown. tt;
  old = λ known greatest. tt;
  copied = λ known room. tt;
  crowded = tt;
  busy = tt;
  ask = λ known closed room. refl;
})

names-join_reply : (net : Network) (h : List Entry) (t : Ticket) (o : Outcome) → NamesOwnDevice (call.JoinReply t o) (reply_to net h (call.JoinReply t o))
names-join_reply net h t o = step (is_ticket_open h t) (is_failed o) (nonce_at_or_above net h t)
  where
    step : (is_open failed : Bool) (stale : Option ℕ) → NamesOwnDevice (call.JoinReply t o) (join_reply_by is_open failed stale (reply.Accepted (dev_eui t) (next_session h (dev_eui t)) (address net (dev_eui t))))
    step false failed stale = tt
    step true true stale = tt
    step true false (Some g) = tt
    step true false None = refl

names-close : (net : Network) (h : List Entry) (w : WindowName) → NamesOwnDevice (call.Close w) (reply_to net h (call.Close w))
names-close net h w =
    elim (open_window h w) as (λ found. NamesOwnDevice (call.Close w) (first_case (option_map (λ (o : Opening). reply.Closed w (ack_number h o)) found ∷ []) reply.NoWindow)) [ None ↦ tt | Some o ↦ refl ]

pub names-own : (net : Network) → AllByRecursion (InShard net) net.devices → (h : List Entry) → AllHoused h → (c : Call) → NamesOwnDevice c (reply_to net h c)
names-own net own h housed (call.Uplink frame heard) = names-uplink net own h housed frame heard
names-own net own h housed (call.Join t heard) = names-join net h t heard
names-own net own h housed (call.JoinReply t o) = names-join_reply net h t o
names-own net own h housed (call.Close w) = names-close net h w

pub legal-housed : (net : Network) → AllByRecursion (InShard net) net.devices → (h : List Entry) → IsLegal net h → AllHoused h
legal-housed net own h legal = legal_induction net AllHoused tt (λ g number c ok housed. All-push Housed g (entry_for net g number c) housed (names-own net own g housed c)) h legal

-- ---- the reply

-- the round in which an uplink is acknowledged again, by what is asked of the history
abbrev pub round_by : Fit → Option ℕ → Bool → ℕ → Option ℕ
round_by f greatest is_open last = cond is_open None (when (is_greatest greatest f.counter && nat_lt (last + 1) (2 ^ 32)) (last + 1))

round-own : (k : ℕ) (h : List Entry) → AllHoused h → (f : Fit) → shard_of f.eui ≡ k → round_of (of_shard k h) f ≡ round_of h f
round-own k h housed f mine =
    let greatest : greatest_counter (of_shard k h) f.eui f.session ≡ greatest_counter h f.eui f.session =
    ap (λ opened. maximum (map (λ (o : Opening). o.window.fcnt) (filter (λ (o : Opening). o.window.session == f.session) opened))) (openings-own k f.eui mine h housed) in
    let is_open = is_uplink_open-own k (window_of f) mine h housed in
    let last = last_round-own k (window_of f) mine h housed in
    λ i. round_by f (greatest i) (is_open i) (last i)

uplink-own : (net : Network) → AllByRecursion (InShard net) net.devices → (h : List Entry) → AllHoused h → (frame : List ℕ) → reply_to_uplink net (of_shard (shard_of_frame frame) h) frame ≡ reply_to_uplink net h frame
uplink-own net own h housed frame =
    let k : ℕ = shard_of_frame frame in
    let part : List Entry = of_shard k h in
    uplink-same net part h frame (record {
      window = window_with-own k frame refl h housed;
      fit = λ recover. first_fit-own recover net own h housed frame;
      copies =
          IfSome-weaker (λ (o : Opening). shard_of o.window.eui ≡ k) (λ (o : Opening). window_copies part o.window ≡ window_copies h o.window) (window_with h frame) (λ o mine. window_copies-own k o.window mine h housed) (window_with-names h housed frame);
      of_fit = λ recover. IfSome-weaker (λ (f : Fit). shard_of f.eui ≡ k) (SaysSame part h) (first_fit recover net h frame)
          (λ f mine. record { windows = window_count-own k f.eui mine h housed; round = round-own k h housed f mine }) (first_fit-names recover net own h frame);
    })

-- whether a session is live, and its next acknowledgement number, by what is told of the device
abbrev live_by : ℕ → List Acceptance → List Opening → Bool
live_by session joins opened = list_any (λ s. s == session) (first_and_other (option_map (λ o. o.window.session) (last opened)) (option_map (λ a. a.session) (last joins)))

abbrev next_by : ℕ → List Closing → Option ℕ
next_by session closed =
    let n : ℕ = unwrap_or (option_map (λ n. n + 1) (maximum (filter_map (λ c. c.ack) (filter (λ c. c.window.session == session) closed)))) 0 in
    when (nat_lt n (2 ^ 32)) n

abbrev ack_by : Opening → List Acceptance → List Opening → List Closing → Option ℕ
ack_by o joins opened closed = cond (is_confirmed o.frame && live_by o.window.session joins opened) (next_by o.window.session closed) None

ack-own : (k : ℕ) (h : List Entry) → AllHoused h → (o : Opening) → shard_of o.window.eui ≡ k → ack_number (of_shard k h) o ≡ ack_number h o
ack-own k h housed o mine =
    let eui : DevEui = o.window.eui in
    let part : List Entry = of_shard k h in
    ap (λ joins. ack_by o joins (openings part eui) (closings part eui)) (acceptances-own k eui mine h)
    ∙ (ap (λ opened. ack_by o (acceptances h eui) opened (closings part eui)) (openings-own k eui mine h housed)
    ∙ ap (λ closed. ack_by o (acceptances h eui) (openings h eui) closed) (closings-own k eui mine h))

-- what is found under a name has that name
named : (h : List Entry) (w : WindowName) → IfSome (open_window h w) (λ o. shard_of o.window.eui ≡ shard_of w.eui)
named h w =
    IfSome-weaker (λ (o : Opening). same_window o.window w ≡ true) (λ (o : Opening). shard_of o.window.eui ≡ shard_of w.eui) (open_window h w)
    (λ o is. ap (λ (v : WindowName). shard_of v.eui) (same_window-eq o.window w is)) (find-passes (λ (o : Opening). same_window o.window w) (open_windows h))

pub map-same : {X Y : Type 0} (f g : X → Y) (o : Option X) → IfSome o (λ x. f x ≡ g x) → option_map f o ≡ option_map g o
map-same f g o same = option_map-same f g o o refl same

close-own : (h : List Entry) → AllHoused h → (net : Network) (w : WindowName) → reply_to net (of_shard (shard_of w.eui) h) (call.Close w) ≡ reply_to net h (call.Close w)
close-own h housed net w =
    let k : ℕ = shard_of w.eui in
    let part : List Entry = of_shard k h in
    let replied : List Entry → Opening → Reply = λ g o. reply.Closed w (ack_number g o) in
    ap (λ found. first_case (option_map (replied part) found ∷ []) reply.NoWindow) (open_window-own k w refl h housed)
    ∙ ap (λ r. first_case (r ∷ []) reply.NoWindow) (map-same (replied part) (replied h) (open_window h w)
    (IfSome-weaker (λ (o : Opening). shard_of o.window.eui ≡ k) (λ (o : Opening). replied part o ≡ replied h o) (open_window h w) (λ o mine. ap (reply.Closed w) (ack-own k h housed o mine)) (named h w)))

pub reply-own : (net : Network) → AllByRecursion (InShard net) net.devices → (h : List Entry) → AllHoused h → (c : Call) → reply_to net (of_shard (shard_of_call c) h) c ≡ reply_to net h c
reply-own net own h housed (call.Uplink frame heard) = uplink-own net own h housed frame
reply-own net own h housed (call.Join t heard) = reply_to_join-own net h t
reply-own net own h housed (call.JoinReply t o) = reply_to_join_reply-own net h t o
reply-own net own h housed (call.Close w) = close-own h housed net w

-- ---- what goes out

session_join-own : (k : ℕ) (eui : DevEui) → shard_of eui ≡ k → (h : List Entry) (session : ℕ) → session_join (of_shard k h) eui session ≡ session_join h eui session
session_join-own k eui mine h session = ap (λ joins. option_map (λ (a : Acceptance). a.join_ans) (find (λ (a : Acceptance). a.session == session) joins)) (acceptances-own k eui mine h)

-- an uplink, by the answer that made its session and by its copies
abbrev uplink_by : Opening → Option JoinAns → List Heard → Uplink
uplink_by o join copies = uplink_under o.window o.frame copies (option_and_then (λ (j : JoinAns). payload_key (data_fields o.frame).port j.nwk j.app) join)

pub uplink_of-same : (g h : List Entry) (o : Opening) → session_join g o.window.eui o.window.session ≡ session_join h o.window.eui o.window.session → window_copies g o.window ≡ window_copies h o.window → uplink_of g o ≡ uplink_of h o
uplink_of-same g h o joins copies =
    ap (λ join. uplink_by o join (window_copies g o.window)) joins ∙ ap (λ hs. uplink_by o (session_join h o.window.eui o.window.session) hs) copies

pub ack_downlink-same : (net : Network) (g h : List Entry) (o : Opening) (n : ℕ) → session_join g o.window.eui o.window.session ≡ session_join h o.window.eui o.window.session → window_copies g o.window ≡ window_copies h o.window → ack_downlink net g o n ≡ ack_downlink net h o n
ack_downlink-same net g h o n joins copies =
    let by : Option JoinAns → List Heard → Option Downlink = λ join hs.
    option_and_then (λ (j : JoinAns). option_map (ack_at net o.frame j.nwk n) (best hs)) join in
    ap (λ join. by join (window_copies g o.window)) joins ∙ ap (λ hs. by (session_join h o.window.eui o.window.session) hs) copies

pub and_then-same : {X Y : Type 0} (f g : X → Option Y) (o : Option X) → IfSome o (λ x. f x ≡ g x) → option_and_then f o ≡ option_and_then g o
and_then-same f g None same = refl
and_then-same f g (Some x) same = same

uplink_out-own : (k : ℕ) (h : List Entry) → AllHoused h → (c : Call) (r : Reply) → shard_of_call c ≡ k → uplink_out (of_shard k h) c r ≡ uplink_out h c r
uplink_out-own k h housed (call.Close w) (reply.Closed closed ack) mine =
    ap (option_and_then (first_uplink_of (of_shard k h))) (open_window-own k w mine h housed)
    ∙ and_then-same (first_uplink_of (of_shard k h)) (first_uplink_of h) (open_window h w)
    (IfSome-weaker (λ (o : Opening). shard_of o.window.eui ≡ shard_of w.eui) (λ (o : Opening). first_uplink_of (of_shard k h) o ≡ first_uplink_of h o) (open_window h w)
    (λ o named_so. ap (when (is_first o.window)) (uplink_of-same (of_shard k h) h o (session_join-own k o.window.eui (named_so ∙ mine) h o.window.session) (window_copies-own k o.window (named_so ∙ mine) h housed))) (named h w))
uplink_out-own k h housed _ _ mine = refl

downlink_out-own : (net : Network) (k : ℕ) (h : List Entry) → AllHoused h → (c : Call) (r : Reply) → shard_of_call c ≡ k → downlink_out net (of_shard k h) c r ≡ downlink_out net h c r
downlink_out-own net k h housed (call.JoinReply t (outcome.Success join)) (reply.Accepted eui session addr) mine =
    ap (λ hs. option_map (accept_at join) (best hs)) (ticket_copies-own k t (eq-eqb (shard_of (dev_eui t)) k mine) h)
downlink_out-own net k h housed (call.Close w) (reply.Closed closed (Some n)) mine =
    ap (option_and_then (λ (o : Opening). ack_downlink net (of_shard k h) o n)) (open_window-own k w mine h housed)
    ∙ and_then-same (λ (o : Opening). ack_downlink net (of_shard k h) o n) (λ (o : Opening). ack_downlink net h o n) (open_window h w)
    (IfSome-weaker (λ (o : Opening). shard_of o.window.eui ≡ shard_of w.eui) (λ (o : Opening). ack_downlink net (of_shard k h) o n ≡ ack_downlink net h o n) (open_window h w)
    (λ o named_so. ack_downlink-same net (of_shard k h) h o n (session_join-own k o.window.eui (named_so ∙ mine) h o.window.session) (window_copies-own k o.window (named_so ∙ mine) h housed)) (named h w))
downlink_out-own net k h housed _ _ mine = refl

pub out-own : (net : Network) (h : List Entry) → AllHoused h → (e : Entry) → out net (of_shard (shard_of_call e.call) h) e ≡ out net h e
out-own net h housed e =
    let k : ℕ = shard_of_call e.call in
    let uplink = uplink_out-own k h housed e.call e.reply refl in
    let downlink = downlink_out-own net k h housed e.call e.reply refl in
    λ i. record { uplink = uplink i; downlink = downlink i }
