-- What comes of an uplink by the devices and windows that agree with the entries, and that they agree after it.
use Rattle.std.proofs.Common.{◌≡◌, ℕ, ◌+◌, ◌<◌, ◌==◌, Bool, true, false, cond, nat_lt, List, [], ◌∷◌, ◌++◌, length, Option, None, Some, IfSome, option_map, refl, sym, ap, ap₂, subst, ◌∙◌, arith, inl, inr}
use Rattle.std.specs.Prelude.{IsSome, is_some, Contains, ◌-◌, ◌^◌, ◌&&◌, ◌||◌, not, unwrap_or}
use Rattle.std.specs.List.{AllByRecursion, list_any}
use Rattle.std.specs.Option.{option_and_then}
use Rattle.std.proofs.lemmas.Option.{cond_some}
use Rattle.std.proofs.lemmas.Bool.Decides.{nat_tests}
use Rattle.ns_types.specs.declared.identity.DevEui.{DevEui}
use Rattle.ns_types.specs.declared.identity.Key.{Key}
use Rattle.ns_types.specs.declared.identity.WindowName.{WindowName}
use Rattle.ns_types.specs.declared.heard.Heard.{Heard}
use Rattle.ns_types.specs.Cases.{when}
use Rattle.ns_types.specs.Identity.{shard_of, shard_of_addr, same_uplink, same_window}
use Rattle.ns_views.specs.Frame.{data_fields, is_confirmed}
use Rattle.ns_secure.specs.Counter.{above, below, Exceeds}
use Rattle.ns_roster.specs.declared.Device.{Device}
use Rattle.ns_roster.specs.Network.{Network, device, device_addr}
use Rattle.ns_roster.specs.Valid.{IsRoster}
use Rattle.ns_roster.proofs.DeviceLemmas.{shard_of_device}
use Rattle.ns_calls.specs.declared.call.JoinAns.{JoinAns}
use Rattle.ns_calls.specs.declared.call.Call.TheVariants as call
use Rattle.ns_calls.specs.declared.call.Reply.{Reply}
use Rattle.ns_calls.specs.declared.call.Reply.TheVariants as reply
use Rattle.ns_calls.specs.declared.call.Entry.{Entry}
use Rattle.ns_calls.specs.Queries.{maximum}
use Rattle.ns_calls.proofs.Says as history
use Rattle.ns_calls.specs.Entries.{Opening, open_windows, most_copies, closed}
use Rattle.ns_calls.specs.History.{open_window, is_uplink_open, window_count, window_copies, session_join, live, is_live, greatest_counter, last_round, next_ack}
use Rattle.ns_calls.specs.Headline.{session_round}
use Rattle.ns_calls.proofs.Says.{window_copy_in, opening_of, closing_in, uplink-says}
use Rattle.ns_calls.specs.Reply as plain
use Rattle.ns_calls.specs.Reply.{reply_to_uplink, Fit, window_of, first_fit, uplink_rule}
use Rattle.ns_calls.specs.Legal.{IsLegal, entry_for, with_call}
use Rattle.ns_calls.proofs.LocalLemmas.{bool_tells}
use Rattle.ns_calls.proofs.Lists.{All-weaker, IfSome-weaker, at_some, option_map-same}
use Rattle.ns_calls.proofs.LegalLemmas.{history_more}
use Rattle.ns_calls.proofs.UplinkLemmas.{uplink-has, window-fits}
use Rattle.ns_calls.proofs.RoundLemmas.{rounds-same, rounds_are_counted}
use Rattle.ns_calls.proofs.FreshLemmas.{IsApart, windows-apart, opened-new, again-next}
use Rattle.ns_sessions.specs.declared.session.Session.{Session}
use Rattle.ns_sessions.specs.Record.{device_record, session_record, session_in, IsNewCounter, with_uplink, next_round_in, with_round}
use Rattle.ns_sessions.specs.Laws.{OthersStay, UplinksAgree, concerns}
use Rattle.ns_sessions.proofs.Sessions.{Numbered, found_by_number}
use Rattle.ns_sessions.proofs.Facts.{IsFit, first_fit-live}
use Rattle.ns_windows.specs.declared.window.Window.{Window}
use Rattle.ns_windows.specs.Windows.{window_named, count}
use Rattle.ns_devices.specs.declared.own.Own.{Own}
use Rattle.ns_shard.specs.Tables.{window_of_opening, windows_in, nwk_of, app_of, devices_in}
use Rattle.ns_devices.specs.Devices as table
use Rattle.ns_devices.specs.Devices.{keys_in, first_own_fit}
use Rattle.ns_shard.specs.Private.Reaction as kept
use Rattle.ns_shard.specs.Private.Reaction.{uplink_reply, with_shard_uplink, with_copy_or_window, with_window, HasPlace, CanOpen}
use Rattle.ns_shard.specs.Private.Parts.{Agrees}
use Rattle.ns_shard.proofs.Roster.{fit-own}
use Rattle.ns_shard.proofs.DeviceSteps.{devices-changed, devices-same}
use Rattle.ns_shard.proofs.WindowSteps.{windows-quiet, windows-copied, windows-opened, windows-framed, windows-named, windows-count, copied-full}
use Rattle.ns_shard.proofs.PartSteps.{joined, same_device-false}
use Rattle.ns_shard.proofs.CloseSteps.{fit-known, own-some, fit-of}
use Rattle.ns_windows.proofs.Passing.{none_found}
use Rattle.ns_kept.proofs.Within.{find-any}
use Rattle.std.proofs.Math.Bool.{and-true}
use Rattle.ns_shard.proofs.Totals.{is_some-map}
use Rattle.ns_shard.proofs.Maps.{some-of}
use Rattle.std.proofs.lemmas.Bool.{le-ltb, eqb-true}

-- ---- the reply to a frame at or below the greatest counter

-- what is known of where a frame fits
record IsPlaced (net : Network) (index : ℕ) (h : List Entry) (f : Fit) : Type 0 where
  fits : IsFit h f
  shard : shard_of f.eui ≡ index
  known : IsSome (device net f.eui)

next-round : (h : List Entry) (f : Fit) (round : ℕ) → plain.next_round h f ≡ Some round → round ≡ last_round h (window_of f) + 1
next-round h f round is =
    let found = cond_some (plain.is_greatest (greatest_counter h f.eui f.session) f.counter && nat_lt (last_round h (window_of f) + 1) (2 ^ 32)) (last_round h (window_of f) + 1) round is in
    sym found.1

-- two tests that say the same
any-same : (test other : Opening → Bool) (os : List Opening) → AllByRecursion (λ o. test o ≡ other o) os → list_any test os ≡ list_any other os
any-same test other [] same = refl
any-same test other (o ∷ os) same = ap₂ (λ b c. b || c) same.0 (any-same test other os same.1)

-- the window of an uplink's last round is open where one of its windows is
last-open : (net : Network) (h : List Entry) → IsLegal net h → (f : Fit) → is_some (open_window h (plain.in_round f (last_round h (window_of f)))) ≡ is_uplink_open h (window_of f)
last-open net h legal f =
    find-any (λ (o : Opening). same_window o.window (plain.in_round f last)) (open_windows h)
    ∙ any-same (λ (o : Opening). same_window o.window (plain.in_round f last)) (λ (o : Opening). same_uplink o.window (window_of f)) (open_windows h)
    (All-weaker (λ (o : Opening). o.window.round ≡ last_round h o.window) (λ (o : Opening). same_window o.window (plain.in_round f last) ≡ same_uplink o.window (window_of f)) same (open_windows h) (rounds_are_counted net h legal).of_open)
  where
    last : ℕ
    last = last_round h (window_of f)

    same : (o : Opening) → o.window.round ≡ last_round h o.window → same_window o.window (plain.in_round f (last_round h (window_of f))) ≡ same_uplink o.window (window_of f)
    same o is = elim (bool_tells (same_uplink o.window (window_of f))) [
      | inl mine ↦
          (let round : o.window.round ≡ last_round h (window_of f) = is ∙ ap (λ ns. unwrap_or (maximum ns) 0) (rounds-same h o.window (window_of f) mine) in
          let test : (o.window.round == last_round h (window_of f)) ≡ true = grind (arith, nat_tests) in
          ap (λ b. same_uplink o.window (window_of f) && b) test ∙ and-true (same_uplink o.window (window_of f)))
      | inr other ↦ ap (λ b. b && (o.window.round == last_round h (window_of f))) other ∙ sym other
    ]

round-same : (net : Network) (index : ℕ) (h : List Entry) (f : Fit) → IsLegal net h → UplinksAgree net h → IsPlaced net index h f → kept.round_of (devices_in net index h) (windows_in h) f ≡ plain.round_of h f
round-same net index h f legal law placed = ap open_before next ∙ by_round (plain.next_round h f) refl
  where
    open_before : Option ℕ → Option ℕ
    open_before o = option_and_then (λ round. when (not (is_some (window_named (plain.in_round f (round - 1)) (windows_in h)))) round) o

    next : table.next_round (devices_in net index h) f ≡ plain.next_round h f
    next =
        let own = own-some net index h f.eui placed.shard placed.known in
        ap (option_and_then (λ (o : Own). next_round_in o.state f.session f.counter)) own.1
        ∙ (ap (λ (e : DevEui). next_round_in (device_record net h e) f.session f.counter) own.2 ∙ law.rounds legal f placed.fits.lives)

    by_round : (o : Option ℕ) → plain.next_round h f ≡ o → open_before o ≡ cond (is_uplink_open h (window_of f)) None o
    by_round None is = elim (is_uplink_open h (window_of f)) as (λ b. None ≡ cond {A = Option ℕ} b None None) [ true ↦ refl | false ↦ refl ]
    by_round (Some round) is =
        let last : round ≡ last_round h (window_of f) + 1 = next-round h f round is in
        let before : round - 1 ≡ last_round h (window_of f) = omega (arith, last) in
        let opens : is_some (window_named (plain.in_round f (round - 1)) (windows_in h)) ≡ is_uplink_open h (window_of f) =
        ap (λ n. is_some (window_named (plain.in_round f n) (windows_in h))) before
        ∙ (ap (λ o. is_some o) (windows-named h (plain.in_round f (last_round h (window_of f))))
        ∙ (is_some-map (window_of_opening h) (open_window h (plain.in_round f (last_round h (window_of f)))) ∙ last-open net h legal f)) in
        ap (λ b. when (not b) round) opens ∙ elim (is_uplink_open h (window_of f)) as (λ b. when (not b) round ≡ cond {A = Option ℕ} b None (Some round)) [ true ↦ refl | false ↦ refl ]

-- what fits is of a device of the frame's shard
fit-shard : (recover : Option ℕ → ℕ → Option ℕ) (net : Network) (index : ℕ) (h : List Entry) (frame : List ℕ) → IsRoster net → shard_of_addr (record { 0 = (data_fields frame).addr }) ≡ index → IfSome (first_fit recover net h frame) (λ f. shard_of f.eui ≡ index)
fit-shard recover net index h frame valid mine = fit-of (λ (e : DevEui). shard_of e ≡ index) recover net h frame each
  where
    each : (d : Device) → Contains net.devices d → ((device_addr net d).0 == (data_fields frame).addr) ≡ true → shard_of d.eui ≡ index
    each d member is =
        let addr : (device_addr net d).0 ≡ (data_fields frame).addr = eqb-true (device_addr net d).0 (data_fields frame).addr is in
        sym (shard_of_device net valid d member) ∙ (ap (λ n. shard_of_addr (record { 0 = n })) addr ∙ mine)

-- where a frame fits is placed
fits-placed : (recover : Option ℕ → ℕ → Option ℕ) (net : Network) (index : ℕ) (h : List Entry) (frame : List ℕ) → IsRoster net → shard_of_addr (record { 0 = (data_fields frame).addr }) ≡ index → IfSome (first_fit recover net h frame) (IsPlaced net index h)
fits-placed recover net index h frame valid mine = step (first_fit recover net h frame) (first_fit-live recover net h frame) (fit-shard recover net index h frame valid mine) (fit-known recover net h frame valid)
  where
    step : (o : Option Fit) → IfSome o (IsFit h) → IfSome o (λ f. shard_of f.eui ≡ index) → IfSome o (λ f. IsSome (device net f.eui)) → IfSome o (IsPlaced net index h)
    step None fits shard known = tt
    step (Some f) fits shard known = record { fits = fits; shard = shard; known = known }

pub uplink-replied : (net : Network) (index : ℕ) (h : List Entry) (devices : List Own) (windows : List Window) (frame : List ℕ) → Agrees net index h devices windows → UplinksAgree net h →
    shard_of_addr (record { 0 = (data_fields frame).addr }) ≡ index → uplink_reply devices windows frame ≡ reply_to_uplink net h frame
uplink-replied net index h devices windows frame agrees law mine =
    ap₂ (λ ds ws. uplink_reply ds ws frame) agrees.by_device agrees.by_window ∙ (λ i. uplink_rule (record { confirmed = is_confirmed frame; copied = copied i; above = fresh i; below = stale i }))
  where
    told : (o : Option Opening) → option_map {U = WindowName × ℕ} (λ (w : Window). (w.name, length w.copies.items)) (option_map (window_of_opening h) o) ≡ option_map {U = WindowName × ℕ} (λ (x : Opening). (x.window, length (window_copies h x.window))) o
    told None = refl
    told (Some o) = refl

    copied : (kept.uplink_facts (devices_in net index h) (windows_in h) frame).copied ≡ (plain.uplink_facts net h frame).copied
    copied = ap (option_map {U = WindowName × ℕ} (λ (w : Window). (w.name, length w.copies.items))) (windows-framed h frame) ∙ told (plain.window_with h frame)

    fresh : (kept.uplink_facts (devices_in net index h) (windows_in h) frame).above ≡ (plain.uplink_facts net h frame).above
    fresh = option_map-same (λ (f : Fit). (f, count f.eui (windows_in h))) (λ (f : Fit). (f, window_count h f.eui)) (first_own_fit above frame (devices_in net index h)) (first_fit above net h frame) (fit-own above net index h frame agrees.valid (law.fits above frame) mine)
        (IfSome-weaker (IsPlaced net index h) (λ (f : Fit). (f, count f.eui (windows_in h)) ≡ (f, window_count h f.eui)) (first_fit above net h frame) (λ f placed. ap (λ n. (f, n)) (windows-count h f.eui)) (fits-placed above net index h frame agrees.valid mine))

    stale : (kept.uplink_facts (devices_in net index h) (windows_in h) frame).below ≡ (plain.uplink_facts net h frame).below
    stale = option_map-same (λ (f : Fit). (f, count f.eui (windows_in h), kept.round_of (devices_in net index h) (windows_in h) f)) (λ (f : Fit). (f, window_count h f.eui, plain.round_of h f)) (first_own_fit below frame (devices_in net index h)) (first_fit below net h frame) (fit-own below net index h frame agrees.valid (law.fits below frame) mine)
        (IfSome-weaker (IsPlaced net index h) (λ (f : Fit). (f, count f.eui (windows_in h), kept.round_of (devices_in net index h) (windows_in h) f) ≡ (f, window_count h f.eui, plain.round_of h f)) (first_fit below net h frame)
        (λ f placed. ap₂ (λ n r. (f, n, r)) (windows-count h f.eui) (round-same net index h f agrees.history.legal law placed)) (fits-placed below net index h frame agrees.valid mine))

-- ---- an uplink that is opened

-- the session of a window that fits is one of the record's, with its keys and its counter
session_record-numbered : (h : List Entry) (eui : DevEui) → Numbered (session_record h eui)
session_record-numbered h eui n = step (session_join h eui n)
  where
    step : (j : Option JoinAns) → IfSome (option_map (λ (join : JoinAns). let s : Session = record { number = n; nwk = join.nwk; app = join.app; greatest_counter = greatest_counter h eui n; round = session_round h eui n; next_ack = next_ack h eui n } in s) j) (λ s. s.number ≡ n)
    step None = tt
    step (Some join) = refl

session-found : (net : Network) (h : List Entry) (eui : DevEui) (session : ℕ) → is_live h eui session ≡ true → session_in (device_record net h eui) session ≡ session_record h eui session
unfolding device_record
session-found net h eui session lives =
    found_by_number (session_record h eui) (session_record-numbered h eui) session (live h eui) ∙ ap (λ b. cond b (session_record h eui session) None) lives

-- what is known of a window that is opened, in any round
record IsOpened (net : Network) (index : ℕ) (h : List Entry) (frame : List ℕ) (w : WindowName) : Type 0 where
  shard : shard_of w.eui ≡ index
  known : IsSome (device net w.eui)
  keyed : IsSome (session_join h w.eui w.session)
  found : session_in (device_record net h w.eui) w.session ≡ session_record h w.eui w.session
  apart : IsApart h frame w

placed-opened : (net : Network) (index : ℕ) (h : List Entry) (frame : List ℕ) (w : WindowName) (f : Fit) → IsPlaced net index h f → f.eui ≡ w.eui → f.session ≡ w.session → IsApart h frame w → IsOpened net index h frame w
placed-opened net index h frame w f placed eui session apart = record {
  shard = subst (λ (d : DevEui). shard_of d ≡ index) eui placed.shard;
  known = subst (λ (d : DevEui). IsSome (device net d)) eui placed.known;
  keyed = subst (λ s. IsSome (session_join h w.eui s)) session (subst (λ (d : DevEui). IsSome (session_join h d f.session)) eui placed.fits.keyed);
  found =
      session-found net h w.eui w.session (subst (λ s. is_live h w.eui s ≡ true) session (subst (λ (d : DevEui). is_live h d f.session ≡ true) eui placed.fits.lives));
  apart = apart;
}

is-opened : (net : Network) (index : ℕ) (h : List Entry) (frame : List ℕ) (heard : Heard) (w : WindowName) → IsRoster net → IsLegal net h → shard_of_addr (record { 0 = (data_fields frame).addr }) ≡ index
    → history.window_in (call.Uplink frame heard) (reply_to_uplink net h frame) ≡ Some (opening_of w frame heard) → IsOpened net index h frame w
is-opened net index h frame heard w valid legal mine says =
    let at = window-fits net h frame heard w says in
    placed-opened net index h frame w at.fit (at_some (IsPlaced net index h) (first_fit at.recover net h frame) at.fit at.is (fits-placed at.recover net index h frame valid mine)) at.eui at.session (windows-apart net h legal frame heard w says)

-- the record has the session
opened-session : (net : Network) (index : ℕ) (h : List Entry) (frame : List ℕ) (w : WindowName) → IsOpened net index h frame w → (join : JoinAns) → session_join h w.eui w.session ≡ Some join →
    let s : Session = record { number = w.session; nwk = join.nwk; app = join.app; greatest_counter = greatest_counter h w.eui w.session; round = session_round h w.eui w.session; next_ack = next_ack h w.eui w.session } in
    session_in (device_record net h w.eui) w.session ≡ Some s
opened-session net index h frame w is join keyed =
    is.found ∙ ap (option_map (λ (j : JoinAns). let s : Session = record { number = w.session; nwk = j.nwk; app = j.app; greatest_counter = greatest_counter h w.eui w.session; round = session_round h w.eui w.session; next_ack = next_ack h w.eui w.session } in s)) keyed

new_counter : (net : Network) (index : ℕ) (h : List Entry) (frame : List ℕ) (w : WindowName) → IsOpened net index h frame w → Exceeds (greatest_counter h w.eui w.session) w.fcnt → IsNewCounter (session_in (device_record net h w.eui) w.session) w.fcnt
new_counter net index h frame w is above =
    let (join, keyed) = some-of (session_join h w.eui w.session) is.keyed in
    subst (λ o. IsNewCounter o w.fcnt) (sym (opened-session net index h frame w is join keyed)) above

opened-keys : (net : Network) (index : ℕ) (h : List Entry) (frame : List ℕ) (w : WindowName) → IsOpened net index h frame w →
    keys_in (devices_in net index h) w ≡ Some (nwk_of (session_join h w.eui w.session), app_of (session_join h w.eui w.session))
opened-keys net index h frame w is =
    let (join, keyed) = some-of (session_join h w.eui w.session) is.keyed in
    let own = own-some net index h w.eui is.shard is.known in
    ap (option_and_then (λ (o : Own). keys_of (session_in o.state w.session))) own.1
    ∙ (ap (λ (e : DevEui). keys_of (session_in (device_record net h e) w.session)) own.2
    ∙ (ap keys_of (opened-session net index h frame w is join keyed)
    ∙ ap (λ (j : Option JoinAns). Some (nwk_of j, app_of j)) (sym keyed)))
  where
    keys_of : Option Session → Option (Key × Option Key)
    keys_of o = option_map (λ (s : Session). (s.nwk, s.app)) o

has-place : (net : Network) (index : ℕ) (h : List Entry) (devices : List Own) (windows : List Window) (frame : List ℕ) (w : WindowName) → Agrees net index h devices windows → IsOpened net index h frame w → HasPlace devices windows w
has-place net index h devices windows frame w agrees is = record {
  keys = subst (λ ds. IsSome (keys_in ds w)) (sym agrees.by_device) (subst (λ o. IsSome o) (sym (opened-keys net index h frame w is)) refl);
  apart = ap (window_named w) agrees.by_window ∙ (windows-named h w ∙ ap (option_map (window_of_opening h)) is.apart.name);
}

pub can_open : (net : Network) (index : ℕ) (h : List Entry) (devices : List Own) (windows : List Window) (frame : List ℕ) (heard : Heard) → Agrees net index h devices windows → UplinksAgree net h →
    shard_of_addr (record { 0 = (data_fields frame).addr }) ≡ index → CanOpen devices windows frame
can_open net index h devices windows frame heard agrees law mine =
    record { place = λ w said. placed w (reply.Opened w) said refl; again = λ w said. placed w (reply.Again w) said refl }
  where
    placed : (w : WindowName) (r : Reply) → uplink_reply devices windows frame ≡ r → history.window_in (call.Uplink frame heard) r ≡ Some (opening_of w frame heard) → HasPlace devices windows w
    placed w r said opens =
        let replied : reply_to_uplink net h frame ≡ r = sym (uplink-replied net index h devices windows frame agrees law mine) ∙ said in
        has-place net index h devices windows frame w agrees (is-opened net index h frame heard w agrees.valid agrees.history.legal mine (ap (history.window_in (call.Uplink frame heard)) replied ∙ opens))

-- ---- after it

-- where a copy is added there is room for it, and none where the window is crowded
abbrev HasRoom : List Entry → Reply → Type 0
HasRoom h (reply.Copied w place) = length (window_copies h w) < most_copies
HasRoom h (reply.Crowded w) = nat_lt (length (window_copies h w)) most_copies ≡ false
HasRoom h _ = Unit {0}

has-room : (net : Network) (h : List Entry) (frame : List ℕ) → HasRoom h (reply_to_uplink net h frame)
has-room net h frame = uplink-has (HasRoom h) net h frame (record {
  copied = λ o is room. room;
  crowded = λ o is full. le-ltb (length (window_copies h o.window)) most_copies full;
  opened = λ f none is room. tt;
  again = λ f round none is confirmed next room. tt;
  busy = λ recover f is. tt;
  old = λ f is. tt;
  none = tt;
})

-- the devices and the windows after an uplink
record After (net : Network) (index : ℕ) (h g : List Entry) (frame : List ℕ) (heard : Heard) (r : Reply) : Type 0 where
  devices_after : with_shard_uplink r (devices_in net index h) ≡ devices_in net index g
  windows_after : with_copy_or_window r frame heard (devices_in net index h) (windows_in h) ≡ windows_in g

after-of : (net : Network) (index : ℕ) (h : List Entry) (devices : List Own) (windows : List Window) (frame : List ℕ) (heard : Heard) → Agrees net index h devices windows → OthersStay → UplinksAgree net h →
    shard_of_addr (record { 0 = (data_fields frame).addr }) ≡ index → (r : Reply) → reply_to_uplink net h frame ≡ r → After net index h (with_call net h (length h) (call.Uplink frame heard)) frame heard r
after-of net index h devices windows frame heard agrees stay law mine r is = step r is
  where
    e : Entry
    e = entry_for net h (length h) (call.Uplink frame heard)

    closes_none : closing_in (call.Uplink frame heard) (reply_to_uplink net h frame) ≡ None
    closes_none = uplink-says (λ s. closed s ≡ None) frame heard (λ w. refl) (λ w. refl) (λ w. refl) refl (reply_to_uplink net h frame)

    -- where a reply concerns no device
    unconcerned : (x : Reply) → reply_to_uplink net h frame ≡ x → ((eui : DevEui) → concerns eui (call.Uplink frame heard) x ≡ false) → devices_in net index h ≡ devices_in net index (h ++ e ∷ [])
    unconcerned x said none = sym (devices-same net index h (h ++ e ∷ []) (λ eui. stay.others net h e eui (ap (concerns eui (call.Uplink frame heard)) said ∙ none eui)))

    -- a window that is opened stands at the end
    windows_opened : (w : WindowName) → IsOpened net index h frame w → history.window_in (call.Uplink frame heard) (reply_to_uplink net h frame) ≡ Some (opening_of w frame heard)
        → window_copy_in (call.Uplink frame heard) (reply_to_uplink net h frame) ≡ Some (w, heard) → with_window frame heard w (keys_in (devices_in net index h) w) (windows_in h) ≡ windows_in (h ++ e ∷ [])
    windows_opened w opened says copied =
        ap (λ keys. with_window frame heard w keys (windows_in h)) (opened-keys net index h frame w opened)
        ∙ sym (windows-opened h e (opening_of w frame heard) (joined net index h devices windows agrees) opened.keyed closes_none says copied opened.apart.copies
        (none_found (λ (o : Opening). same_window o.window w) (open_windows h) opened.apart.name))

    quiet : (x : Reply) → reply_to_uplink net h frame ≡ x → history.window_in (call.Uplink frame heard) x ≡ None → window_copy_in (call.Uplink frame heard) x ≡ None → windows_in h ≡ windows_in (h ++ e ∷ [])
    quiet x said opens copies =
        sym (windows-quiet h e (joined net index h devices windows agrees) closes_none (ap (history.window_in (call.Uplink frame heard)) said ∙ opens) (ap (window_copy_in (call.Uplink frame heard)) said ∙ copies))

    step : (x : Reply) → reply_to_uplink net h frame ≡ x → After net index h (h ++ e ∷ []) frame heard x
    step (reply.Copied w place) said = record {
      devices_after = unconcerned (reply.Copied w place) said (λ eui. refl);
      windows_after =
          sym (windows-copied h e w heard (joined net index h devices windows agrees) closes_none (ap (history.window_in (call.Uplink frame heard)) said) (ap (window_copy_in (call.Uplink frame heard)) said)
          (subst (HasRoom h) said (has-room net h frame)));
    }
    step (reply.Crowded w) said = record {
      devices_after = unconcerned (reply.Crowded w) said (λ eui. refl);
      windows_after =
          copied-full h w heard (subst (HasRoom h) said (has-room net h frame))
          ∙ quiet (reply.Crowded w) said refl refl;
    }
    step (reply.Opened w) said =
        let opened = is-opened net index h frame heard w agrees.valid agrees.history.legal mine (ap (history.window_in (call.Uplink frame heard)) said) in
        let new = opened-new net h agrees.history.legal frame heard w said in
        record {
          devices_after =
              sym (devices-changed net index h (h ++ e ∷ []) w.eui (with_uplink w.session w.fcnt) agrees.valid
              (λ other differs. stay.others net h e other (ap (concerns other (call.Uplink frame heard)) said ∙ same_device-false other w.eui differs))
              (ap (λ (x : Reply). let d : Entry = record { number = length h; call = call.Uplink frame heard; reply = x } in device_record net (h ++ d ∷ []) w.eui) said
              ∙ sym (law.records agrees.history.legal (length h) frame heard w new.round (new_counter net index h frame w opened new.counter))));
          windows_after = windows_opened w opened (ap (history.window_in (call.Uplink frame heard)) said) (ap (window_copy_in (call.Uplink frame heard)) said);
        }
    step (reply.Again w) said =
        let opened = is-opened net index h frame heard w agrees.valid agrees.history.legal mine (ap (history.window_in (call.Uplink frame heard)) said) in
        let next = again-next net h agrees.history.legal frame heard w said in
        let round : w.round ≡ last_round h w + 1 = next.round in
        record {
          devices_after =
              sym (devices-changed net index h (h ++ e ∷ []) w.eui (with_round w.session w.round) agrees.valid
              (λ other differs. stay.others net h e other (ap (concerns other (call.Uplink frame heard)) said ∙ same_device-false other w.eui differs))
              (ap (λ (x : Reply). let d : Entry = record { number = length h; call = call.Uplink frame heard; reply = x } in device_record net (h ++ d ∷ []) w.eui) said
              ∙ sym (law.again (length h) frame heard w next.counter (omega (arith, round)))));
          windows_after = windows_opened w opened (ap (history.window_in (call.Uplink frame heard)) said) (ap (window_copy_in (call.Uplink frame heard)) said);
        }
    step x said = record { devices_after = unconcerned x said (λ eui. refl); windows_after = quiet x said refl refl }

pub agrees-uplink : (net : Network) (index : ℕ) (h : List Entry) (devices : List Own) (windows : List Window) (frame : List ℕ) (heard : Heard) → Agrees net index h devices windows → OthersStay → UplinksAgree net h →
    shard_of_addr (record { 0 = (data_fields frame).addr }) ≡ index → (r : Reply) → reply_to_uplink net h frame ≡ r →
    Agrees net index (with_call net h (length h) (call.Uplink frame heard)) (with_shard_uplink r devices) (with_copy_or_window r frame heard devices windows)
agrees-uplink net index h devices windows frame heard agrees stay law mine r is =
    let after = after-of net index h devices windows frame heard agrees stay law mine r is in
    record {
      valid = agrees.valid;
      history = history_more net index h (call.Uplink frame heard) mine agrees.history;
      by_device = ap (with_shard_uplink r) agrees.by_device ∙ after.devices_after;
      by_window = ap₂ (with_copy_or_window r frame heard) agrees.by_device agrees.by_window ∙ after.windows_after;
    }
