-- What the entries of one shard say of it is what all entries say of it, where each reply names a device of its call's shard.
use Rattle.std.proofs.Common.{◌≡◌, ℕ, ◌==◌, Bool, true, false, not, ◌&&◌, eqb, List, [], ◌∷◌, filter, filter_map, map, find, count_by, bytes_eq, unwrap_or, Option, IfSome, option_map, option_to_list, refl, sym, ap, ◌∙◌, arith}
use Rattle.std.specs.List.{AllByRecursion, list_any}
use Rattle.std.specs.Option.{option_and_then, option_map_or}
use Rattle.std.proofs.lemmas.Bool.{eq-eqb, eqb-true}
use Rattle.std.proofs.lemmas.Bool.Decides.{nat_tests}
use Rattle.std.proofs.lemmas.Slice.Eq.{bytes_eq-Decides}
use Rattle.ns_types.specs.declared.identity.DevEui.{DevEui}
use Rattle.ns_types.specs.declared.identity.WindowName.{WindowName}
use Rattle.ns_types.specs.declared.heard.Heard.{Heard}
use Rattle.ns_types.specs.Identity.{shard_of, shard_of_addr, same_uplink, same_window}
use Rattle.ns_views.specs.Frame.{data_fields}
use Rattle.ns_roster.specs.declared.Device.{Device}
use Rattle.ns_roster.specs.Network.{Network, device_addr}
use Rattle.ns_calls.specs.declared.call.Call.{Call}
use Rattle.ns_calls.specs.declared.call.Call.TheVariants as call
use Rattle.ns_calls.specs.declared.call.Reply.{Reply}
use Rattle.ns_calls.specs.declared.call.Reply.TheVariants as reply
use Rattle.ns_calls.specs.declared.call.Entry.{Entry}
use Rattle.ns_calls.specs.Queries.{first, last, maximum}
use Rattle.ns_calls.specs.Entries as entries
use Rattle.ns_calls.specs.Entries.{Acceptance, Opening, Closing, Said, said, first_opened, opened, closes, same_device, acceptances, openings, open_windows}
use Rattle.ns_calls.specs.History.{copied, closings, first_and_other, live, last_round, open_window, is_uplink_open, window_count, window_copies}
use Rattle.ns_calls.proofs.Says.{window_in, closing_in, join-says, answer-says, close-says, closed-by, opened-is}
use Rattle.ns_calls.specs.Reply.{Fit, fit_of, fitting_counter, session_fit, device_fit, devices_at, first_fit, window_with}
use Rattle.ns_calls.specs.Shards.{shard_of_call, of_shard, NamesOwnDevice}
use Rattle.ns_calls.proofs.LocalLemmas.{list_any-own, All-each, filter_map-own, filter_map-own_of, still_open-own_of, count_by-own}
use Rattle.ns_calls.proofs.LocalJoin.{here, other_device, none_single, acceptances-own}
use Rattle.ns_calls.proofs.Lists.{All-append, All-filter, All-weaker, All-passed, filter_map-same, first-gives, first-gives_of, find-own, IfSome-weaker}
use Rattle.ns_calls.proofs.NameLemmas.{same_window-eq}
use Rattle.ns_calls.proofs.UplinkLemmas.{session_fit-has}

-- the reply of an entry names a device of its call's shard
abbrev pub Housed : Entry → Type 0
Housed e = NamesOwnDevice e.call e.reply

abbrev pub AllHoused : List Entry → Type 0
AllHoused h = AllByRecursion Housed h

-- whether a window's device is of shard k
abbrev pub own_window : ℕ → WindowName → Bool
own_window k w = eqb (shard_of w.eui) k

elsewhere : (k : ℕ) (eui : DevEui) (c : Call) → shard_of eui ≡ shard_of_call c → eqb (shard_of_call c) k ≡ false → eqb (shard_of eui) k ≡ false
elsewhere k eui c housed n = ap (λ s. eqb s k) housed ∙ n

other_uplink : (k : ℕ) (v w : WindowName) → shard_of w.eui ≡ k → own_window k v ≡ false → same_uplink v w ≡ false
other_uplink k v w mine other = ap (λ b. b && (v.session == w.session) && (v.fcnt == w.fcnt)) (other_device k v.eui.0 w.eui.0 mine other)

other_window : (k : ℕ) (v w : WindowName) → shard_of w.eui ≡ k → own_window k v ≡ false → same_window v w ≡ false
other_window k v w mine other = ap (λ b. b && (v.round == w.round)) (other_uplink k v w mine other)

-- ---- what entries of other shards don't say

-- the device of a window of which an entry says something is of the call's shard
abbrev IsOfCall : Call → Said → Type 0
IsOfCall c (entries.Opens o) = shard_of o.window.eui ≡ shard_of_call c
IsOfCall c (entries.OpensAgain o) = shard_of o.window.eui ≡ shard_of_call c
IsOfCall c (entries.Copies w heard) = shard_of w.eui ≡ shard_of_call c
IsOfCall c _ = Unit {0}

own-said : (c : Call) (r : Reply) → NamesOwnDevice c r → IsOfCall c (said c r)
own-said (call.Uplink frame heard) (reply.Opened w) housed = housed
own-said (call.Uplink frame heard) (reply.Again w) housed = housed
own-said (call.Uplink frame heard) (reply.Copied w place) housed = housed
own-said (call.Uplink frame heard) _ housed = tt
own-said (call.Join t heard) r housed = join-says (IsOfCall (call.Join t heard)) t heard tt tt tt r
own-said (call.JoinReply t o) r housed = answer-says (IsOfCall (call.JoinReply t o)) t o (λ n. tt) tt tt r
own-said (call.Close w) r housed = close-says (IsOfCall (call.Close w)) w (λ ack. tt) tt r

-- what an entry says
abbrev says_of : Entry → Said
says_of e = said e.call e.reply

own_entry : (e : Entry) → Housed e → IsOfCall e.call (says_of e)
own_entry e housed = own-said e.call e.reply housed

opening-other : (k : ℕ) (eui : DevEui) → shard_of eui ≡ k → (c : Call) (s : Said) → IsOfCall c s → eqb (shard_of_call c) k ≡ false → filter (λ o. same_device o.window.eui eui) (option_to_list (first_opened s)) ≡ []
opening-other k eui mine c (entries.Opens o) own n = none_single (λ (x : Opening). same_device x.window.eui eui) o (other_device k o.window.eui.0 eui.0 mine (elsewhere k o.window.eui c own n))
opening-other k eui mine c _ own n = refl

closing-other : (k : ℕ) (eui : DevEui) → shard_of eui ≡ k → (c : Call) (r : Reply) → eqb (shard_of_call c) k ≡ false → filter (λ x. same_device x.window.eui eui) (option_to_list (closing_in c r)) ≡ []
closing-other k eui mine =
    closed-by (λ d p. eqb (shard_of_call d) k ≡ false → filter (λ (x : Closing). same_device x.window.eui eui) (option_to_list p) ≡ []) (λ d n. refl)
    (λ w ack n. none_single (λ (x : Closing). same_device x.window.eui eui) (record { window = w; ack = ack }) (other_device k w.eui.0 eui.0 mine n))

copy-other : (k : ℕ) (w : WindowName) → shard_of w.eui ≡ k → (c : Call) (s : Said) → IsOfCall c s → eqb (shard_of_call c) k ≡ false → filter (λ x. same_window x.0 w) (option_to_list (copied s)) ≡ []
copy-other k w mine c (entries.Opens o) own n = none_single (λ (x : WindowName × Heard). same_window x.0 w) (o.window, o.heard) (other_window k o.window w mine (elsewhere k o.window.eui c own n))
copy-other k w mine c (entries.OpensAgain o) own n = none_single (λ (x : WindowName × Heard). same_window x.0 w) (o.window, o.heard) (other_window k o.window w mine (elsewhere k o.window.eui c own n))
copy-other k w mine c (entries.Copies v heard) own n = none_single (λ (x : WindowName × Heard). same_window x.0 w) (v, heard) (other_window k v w mine (elsewhere k v.eui c own n))
copy-other k w mine c _ own n = refl

-- where an entry opens a window, its device is of another shard too
opens-other : (k : ℕ) (test : Opening → Bool) → ((o : Opening) → own_window k o.window ≡ false → test o ≡ false) → (c : Call) (s : Said) → IsOfCall c s → eqb (shard_of_call c) k ≡ false → filter test (option_to_list (opened s)) ≡ []
opens-other k test outside c (entries.Opens o) own n = none_single test o (outside o (elsewhere k o.window.eui c own n))
opens-other k test outside c (entries.OpensAgain o) own n = none_single test o (outside o (elsewhere k o.window.eui c own n))
opens-other k test outside c _ own n = refl

closes-other : (k : ℕ) (w : WindowName) → own_window k w ≡ true → (c : Call) (r : Reply) → eqb (shard_of_call c) k ≡ false → option_map_or (λ (x : Closing). same_window x.window w) (closing_in c r) false ≡ false
closes-other k w mine =
    closed-by (λ d p. eqb (shard_of_call d) k ≡ false → option_map_or (λ (x : Closing). same_window x.window w) p false ≡ false) (λ d n. refl)
    (λ v ack n. other_window k v w (grind (arith, nat_tests, mine)) n)

-- ---- what a shard's entries say of its devices and windows

-- of one part of what entries say, where those of other shards say nothing that passes
said-own : {Y : Type 0} (part : Said → Option Y) (q : Y → Bool) (k : ℕ) → ((c : Call) (s : Said) → IsOfCall c s → eqb (shard_of_call c) k ≡ false → filter q (option_to_list (part s)) ≡ []) → (h : List Entry) → AllHoused h →
    filter q (filter_map (λ e. part (says_of e)) (of_shard k h)) ≡ filter q (filter_map (λ e. part (says_of e)) h)
said-own part q k none h housed =
    filter_map-own_of (here k) (λ e. part (says_of e)) q h
    (All-weaker Housed (λ e. here k e ≡ false → filter q (option_to_list (part (says_of e))) ≡ []) (λ e is n. none e.call (says_of e) (own_entry e is) n) h housed)

pub openings-own : (k : ℕ) (eui : DevEui) → shard_of eui ≡ k → (h : List Entry) → AllHoused h → openings (of_shard k h) eui ≡ openings h eui
openings-own k eui mine h housed = said-own first_opened (λ o. same_device o.window.eui eui) k (opening-other k eui mine) h housed

pub closings-own : (k : ℕ) (eui : DevEui) → shard_of eui ≡ k → (h : List Entry) → closings (of_shard k h) eui ≡ closings h eui
closings-own k eui mine h = filter_map-own (here k) (λ e. closing_in e.call e.reply) (λ c. same_device c.window.eui eui) (λ e n. closing-other k eui mine e.call e.reply n) h

pub window_copies-own : (k : ℕ) (w : WindowName) → shard_of w.eui ≡ k → (h : List Entry) → AllHoused h → window_copies (of_shard k h) w ≡ window_copies h w
window_copies-own k w mine h housed = ap (map (λ (c : WindowName × Heard). c.1)) (said-own copied (λ c. same_window c.0 w) k (copy-other k w mine) h housed)

pub open_windows-own : (k : ℕ) (h : List Entry) → AllHoused h → filter (λ o. own_window k o.window) (open_windows (of_shard k h)) ≡ filter (λ o. own_window k o.window) (open_windows h)
open_windows-own k h housed =
    still_open-own_of (λ e. window_in e.call e.reply) (λ o e. closes o.window e) (here k) (λ o. own_window k o.window) (λ o e mine n. closes-other k o.window mine e.call e.reply n) h
    (All-weaker Housed (λ e. here k e ≡ false → filter (λ (o : Opening). own_window k o.window) (option_to_list (window_in e.call e.reply)) ≡ []) (λ e is n. opens-other k (λ (o : Opening). own_window k o.window) (λ o apart. apart) e.call (says_of e) (own_entry e is) n) h housed)

pub window_count-own : (k : ℕ) (eui : DevEui) → shard_of eui ≡ k → (h : List Entry) → AllHoused h → window_count (of_shard k h) eui ≡ window_count h eui
window_count-own k eui mine h housed =
    let of_device = λ (o : Opening). same_device o.window.eui eui in
    let own = λ (o : Opening). own_window k o.window in
    let outside = λ (o : Opening) (n : own o ≡ false). other_device k o.window.eui.0 eui.0 mine n in
    sym (count_by-own own of_device outside (open_windows (of_shard k h)))
    ∙ (ap (count_by of_device) (open_windows-own k h housed) ∙ count_by-own own of_device outside (open_windows h))

-- what is found among the open windows, where it is of the shard
found-own : (k : ℕ) (h : List Entry) → AllHoused h → (test : Opening → Bool) → AllByRecursion (λ o. test o ≡ true → own_window k o.window ≡ true) (open_windows (of_shard k h))
    → AllByRecursion (λ o. test o ≡ true → own_window k o.window ≡ true) (open_windows h) → find test (open_windows (of_shard k h)) ≡ find test (open_windows h)
found-own k h housed test part whole =
    let own = λ (o : Opening). own_window k o.window in
    sym (find-own own test (open_windows (of_shard k h)) part) ∙ (ap (find test) (open_windows-own k h housed) ∙ find-own own test (open_windows h) whole)

named-own : (k : ℕ) (w : WindowName) → shard_of w.eui ≡ k → (o : Opening) → same_window o.window w ≡ true → own_window k o.window ≡ true
named-own k w mine o is = eq-eqb (shard_of o.window.eui) k (ap (λ (v : WindowName). shard_of v.eui) (same_window-eq o.window w is) ∙ mine)

pub open_window-own : (k : ℕ) (w : WindowName) → shard_of w.eui ≡ k → (h : List Entry) → AllHoused h → open_window (of_shard k h) w ≡ open_window h w
open_window-own k w mine h housed =
    let test = λ (o : Opening). same_window o.window w in
    let Own = λ (o : Opening). test o ≡ true → own_window k o.window ≡ true in
    found-own k h housed test (All-each Own (named-own k w mine) (open_windows (of_shard k h))) (All-each Own (named-own k w mine) (open_windows h))

-- the rounds of an uplink, and whether a window of it is open
pub last_round-own : (k : ℕ) (w : WindowName) → shard_of w.eui ≡ k → (h : List Entry) → AllHoused h → last_round (of_shard k h) w ≡ last_round h w
last_round-own k w mine h housed =
    ap (λ os. unwrap_or (maximum (map (λ (o : Opening). o.window.round) os)) 0)
    (said-own opened (λ o. same_uplink o.window w) k (opens-other k (λ o. same_uplink o.window w) (λ o apart. other_uplink k o.window w mine apart)) h housed)

pub is_uplink_open-own : (k : ℕ) (w : WindowName) → shard_of w.eui ≡ k → (h : List Entry) → AllHoused h → is_uplink_open (of_shard k h) w ≡ is_uplink_open h w
is_uplink_open-own k w mine h housed =
    let of_uplink = λ (o : Opening). same_uplink o.window w in
    let own = λ (o : Opening). own_window k o.window in
    let outside = λ (o : Opening) (n : own o ≡ false). other_uplink k o.window w mine n in
    sym (list_any-own own of_uplink outside (open_windows (of_shard k h)))
    ∙ (ap (list_any of_uplink) (open_windows-own k h housed) ∙ list_any-own own of_uplink outside (open_windows h))

-- the window that an entry opens, where it opens one
abbrev pub Opens : (Opening → Type 0) → Entry → Type 0
Opens P e = AllByRecursion P (option_to_list (window_in e.call e.reply))

-- what holds of each window that is opened holds of each open one
pub open_windows-all : (P : Opening → Type 0) (h : List Entry) → AllByRecursion (Opens P) h → AllByRecursion P (open_windows h)
open_windows-all P [] all = tt
open_windows-all P (e ∷ es) all =
    let opened : List Opening = option_to_list (window_in e.call e.reply) in
    let stays : Opening → Bool = λ o. not (list_any (λ x. closes o.window x) es) in
    All-append P (filter stays opened) (open_windows es) (All-filter P stays opened all.0) (open_windows-all P es all.1)

-- the device of an open window is of the shard of its frame's address
abbrev pub IsOfItsFrame : Opening → Type 0
IsOfItsFrame o = shard_of o.window.eui ≡ shard_of_addr (record { 0 = (data_fields o.frame).addr })

opening-framed : (c : Call) (s : Said) → IsOfCall c s → IfSome (opened s) (λ o. c ≡ call.Uplink o.frame o.heard) → AllByRecursion IsOfItsFrame (option_to_list (opened s))
opening-framed c (entries.Opens o) own is = (own ∙ ap shard_of_call is, tt)
opening-framed c (entries.OpensAgain o) own is = (own ∙ ap shard_of_call is, tt)
opening-framed c _ own is = tt

pub open_windows-framed : (h : List Entry) → AllHoused h → AllByRecursion IsOfItsFrame (open_windows h)
open_windows-framed h housed = open_windows-all IsOfItsFrame h (All-weaker Housed (Opens IsOfItsFrame) (λ e is. opening-framed e.call (says_of e) (own_entry e is) (opened-is e.call e.reply)) h housed)

-- the windows that the entries of one shard opened are of that shard
abbrev pub IsOwn : ℕ → Opening → Type 0
IsOwn k o = shard_of o.window.eui ≡ k

opening-mine : (k : ℕ) (c : Call) (s : Said) → IsOfCall c s → shard_of_call c ≡ k → AllByRecursion (IsOwn k) (option_to_list (opened s))
opening-mine k c (entries.Opens o) own mine = (own ∙ mine, tt)
opening-mine k c (entries.OpensAgain o) own mine = (own ∙ mine, tt)
opening-mine k c _ own mine = tt

pub open_windows-mine : (k : ℕ) (h : List Entry) → AllByRecursion (λ e. Housed e × (shard_of_call e.call ≡ k)) h → AllByRecursion (IsOwn k) (open_windows h)
open_windows-mine k h mine = open_windows-all (IsOwn k) h (All-weaker (λ e. Housed e × (shard_of_call e.call ≡ k)) (Opens (IsOwn k)) (λ e own. opening-mine k e.call (says_of e) (own_entry e own.0) own.1) h mine)

abbrev pub shard_of_frame : List ℕ → ℕ
shard_of_frame frame = shard_of_addr (record { 0 = (data_fields frame).addr })

equal_frame : (k : ℕ) (frame : List ℕ) → shard_of_frame frame ≡ k → (o : Opening) → IsOfItsFrame o → bytes_eq o.frame frame ≡ true → own_window k o.window ≡ true
equal_frame k frame mine o framed is =
    let same : o.frame ≡ frame = (bytes_eq-Decides o.frame frame).0 is in
    eq-eqb (shard_of o.window.eui) k (framed ∙ (ap (λ (bytes : List ℕ). shard_of_addr (record { 0 = (data_fields bytes).addr })) same ∙ mine))

pub AllHoused-part : (k : ℕ) (h : List Entry) → AllHoused h → AllHoused (of_shard k h)
AllHoused-part k h housed = All-filter Housed (here k) h housed

pub window_with-own : (k : ℕ) (frame : List ℕ) → shard_of_frame frame ≡ k → (h : List Entry) → AllHoused h → window_with (of_shard k h) frame ≡ window_with h frame
window_with-own k frame mine h housed =
    let test = λ (o : Opening). bytes_eq o.frame frame in
    let Own = λ (o : Opening). test o ≡ true → own_window k o.window ≡ true in
    found-own k h housed test
    (All-weaker IsOfItsFrame Own (λ o framed. equal_frame k frame mine o framed) (open_windows (of_shard k h)) (open_windows-framed (of_shard k h) (AllHoused-part k h housed)))
    (All-weaker IsOfItsFrame Own (λ o framed. equal_frame k frame mine o framed) (open_windows h) (open_windows-framed h housed))

-- ---- what fits

-- what fits, by the joins and the openings of the device
abbrev fit_by : (Option ℕ → ℕ → Option ℕ) → List ℕ → DevEui → List Acceptance → List Opening → Option Fit
fit_by recover frame eui joins opened =
    first (filter_map (λ session.
    option_map (fit_of eui session)
    (option_and_then (λ join. fitting_counter recover frame join.nwk (maximum (map (λ o. o.window.fcnt) (filter (λ o. o.window.session == session) opened))))
    (option_map (λ a. a.join_ans) (find (λ a. a.session == session) joins))))
    (first_and_other (option_map (λ o. o.window.session) (last opened)) (option_map (λ a. a.session) (last joins))))

pub device_fit-own : (recover : Option ℕ → ℕ → Option ℕ) (k : ℕ) (eui : DevEui) → shard_of eui ≡ k → (h : List Entry) → AllHoused h → (frame : List ℕ) →
    device_fit recover (of_shard k h) frame eui ≡ device_fit recover h frame eui
device_fit-own recover k eui mine h housed frame =
    ap (λ joins. fit_by recover frame eui joins (openings (of_shard k h) eui)) (acceptances-own k eui mine h)
    ∙ ap (λ opened. fit_by recover frame eui (acceptances h eui) opened) (openings-own k eui mine h housed)

-- the devices of an address are of its shard
abbrev pub InShard : Network → Device → Type 0
InShard net d = shard_of_addr (device_addr net d) ≡ shard_of d.eui

devices-own : (net : Network) (addr : ℕ) → AllByRecursion (InShard net) net.devices → AllByRecursion (λ d. shard_of d.eui ≡ shard_of_addr (record { 0 = addr })) (devices_at net addr)
devices-own net addr own =
    let test = λ (d : Device). (device_addr net d).0 == addr in
    All-weaker (λ d. InShard net d × (test d ≡ true)) (λ d. shard_of d.eui ≡ shard_of_addr (record { 0 = addr }))
    (λ d both. sym both.0 ∙ ap (λ (n : ℕ). shard_of_addr (record { 0 = n })) (eqb-true (device_addr net d).0 addr both.1)) (devices_at net addr) (All-passed (InShard net) test net.devices own)

pub first_fit-own : (recover : Option ℕ → ℕ → Option ℕ) (net : Network) → AllByRecursion (InShard net) net.devices → (h : List Entry) → AllHoused h → (frame : List ℕ) →
    first_fit recover net (of_shard (shard_of_frame frame) h) frame ≡ first_fit recover net h frame
first_fit-own recover net own h housed frame =
    let k : ℕ = shard_of_frame frame in
    let devices : List Device = devices_at net (data_fields frame).addr in
    let fit : List Entry → Device → Option Fit = λ g d. device_fit recover g frame d.eui in
    ap first (filter_map-same (fit (of_shard k h)) (fit h) devices
    (All-weaker (λ (d : Device). shard_of d.eui ≡ k) (λ d. fit (of_shard k h) d ≡ fit h d) (λ d is. device_fit-own recover k d.eui is h housed frame) devices (devices-own net (data_fields frame).addr own)))

-- what fits names a device of the frame's shard
session_fit-names : (recover : Option ℕ → ℕ → Option ℕ) (h : List Entry) (frame : List ℕ) (eui : DevEui) (session : ℕ) → IfSome (session_fit recover h frame eui session) (λ f. f.eui ≡ eui)
session_fit-names recover h frame eui session = session_fit-has (λ f. f.eui ≡ eui) recover h frame eui session (λ n is mic. refl)

pub device_fit-names : (recover : Option ℕ → ℕ → Option ℕ) (h : List Entry) (frame : List ℕ) (eui : DevEui) → IfSome (device_fit recover h frame eui) (λ f. f.eui ≡ eui)
device_fit-names recover h frame eui = first-gives (λ (f : Fit). f.eui ≡ eui) (session_fit recover h frame eui) (session_fit-names recover h frame eui) (live h eui)

pub first_fit-names : (recover : Option ℕ → ℕ → Option ℕ) (net : Network) → AllByRecursion (InShard net) net.devices → (h : List Entry) (frame : List ℕ) →
    IfSome (first_fit recover net h frame) (λ f. shard_of f.eui ≡ shard_of_addr (record { 0 = (data_fields frame).addr }))
first_fit-names recover net own h frame =
    let Mine = λ (f : Fit). shard_of f.eui ≡ shard_of_addr (record { 0 = (data_fields frame).addr }) in
    let devices : List Device = devices_at net (data_fields frame).addr in
    first-gives_of Mine (λ (d : Device). device_fit recover h frame d.eui) devices
    (All-weaker (λ (d : Device). shard_of d.eui ≡ shard_of_addr (record { 0 = (data_fields frame).addr })) (λ (d : Device). IfSome (device_fit recover h frame d.eui) Mine)
    (λ d is. IfSome-weaker (λ (f : Fit). f.eui ≡ d.eui) Mine (device_fit recover h frame d.eui) (λ f names. ap shard_of names ∙ is)
    (device_fit-names recover h frame d.eui))
    devices (devices-own net (data_fields frame).addr own))
