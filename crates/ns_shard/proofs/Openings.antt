-- What comes of an uplink that no open window has, by where it fits.
use Rattle.std.proofs.Common.{◌≡◌, ℕ, ◌+◌, Bool, true, false, cond, nat_le, nat_lt, Result, Ok, Err, length, refl, subst, List, [], ◌∷◌, Option, None, Some, option_map, sym, ap, ◌∙◌}
use Rattle.std.specs.Option.{option_map_or, is_some}
use Rattle.ns_types.specs.declared.identity.DevEui.{DevEui}
use Rattle.ns_types.specs.declared.identity.WindowName.{WindowName}
use Rattle.ns_types.specs.declared.heard.Heard.{Heard}
use Rattle.ns_types.specs.Cases.{first_case}
use Rattle.ns_views.specs.Frame.{is_confirmed}
use Rattle.ns_secure.specs.Counter.{above, below}
use Rattle.ns_calls.specs.declared.call.Reply.{Reply}
use Rattle.ns_calls.specs.declared.call.Reply.TheVariants as reply
use Rattle.std.specs.declared.alloc.AllocError.{AllocError}
use Rattle.std.specs.Result.{IsErr}
use Rattle.ns_calls.specs.Entries.{most_copies}
use Rattle.ns_sessions.specs.Record.{with_uplink, with_round}
use Rattle.ns_calls.specs.Reply.{Fit, window_of, in_round, most_windows, unless_busy}
use Rattle.ns_windows.specs.declared.window.Window.{Window}
use Rattle.ns_windows.specs.declared.window.Addition.{Addition}
use Rattle.ns_windows.specs.declared.window.Addition.TheVariants as addition
use Rattle.ns_windows.specs.Windows.{window_of_frame, addition, count, with_copy_in, with_copy_of}
use Rattle.ns_devices.specs.declared.own.Own.{Own}
use Rattle.ns_devices.specs.Devices.{first_own_fit, with_change_of, keys_in}
use Rattle.ns_shard.specs.Private.Reaction.{HasPlace, CanOpen, added_reply, open_reply, again_reply, round_of, uplink_reply, with_window}
use Rattle.ns_shard.specs.declared.event.Event.TheVariants as event
use Rattle.ns_shard.specs.declared.event.Event.{Event}
use Rattle.ns_shard.specs.Private.Uplink.{UplinkEnds, IsTaken, IsRefused}
use Rattle.ns_shard.proofs.Totals.{is_some-map, is_some-none}

nothing-framed : (frame : List ℕ) (windows : List Window) → None ≡ option_map addition (window_of_frame frame windows) → window_of_frame frame windows ≡ None
nothing-framed frame windows none =
    is_some-none (window_of_frame frame windows) (sym (is_some-map addition (window_of_frame frame windows)) ∙ ap (λ o. is_some o) (sym none))

-- the reply to a frame that fits above the greatest counter
fresh-reply : (devices : List Own) (windows : List Window) (frame : List ℕ) (f : Fit) → window_of_frame frame windows ≡ None → first_own_fit above frame devices ≡ Some f → open_reply windows f ≡ uplink_reply devices windows frame
fresh-reply devices windows frame f none fits = rw (none, fits)

-- the reply with which a window is opened, by whether its device is busy
pub open-told : (windows : List Window) (f : Fit) (name : WindowName) (busy : Bool) → name ≡ window_of f → busy ≡ nat_le most_windows (count name.eui windows) → busy ≡ false → open_reply windows f ≡ reply.Opened (window_of f)
open-told windows f name busy named_so busy_is free =
    ap (λ b. cond b (reply.Busy f.eui) (reply.Opened (window_of f))) (ap (λ (v : WindowName). nat_le most_windows (count v.eui windows)) (sym named_so) ∙ (sym busy_is ∙ free))

-- the same, by the window's name
pub open-free : (windows : List Window) (f : Fit) (name : WindowName) (busy : Bool) → name ≡ window_of f → busy ≡ nat_le most_windows (count name.eui windows) → busy ≡ false → open_reply windows f ≡ reply.Opened name
open-free windows f name busy named_so busy_is free = open-told windows f name busy named_so busy_is free ∙ ap (λ (v : WindowName). reply.Opened v) (sym named_so)

-- the reply where the device is busy
pub open-busy : (windows : List Window) (f : Fit) (name : WindowName) (busy : Bool) → name ≡ window_of f → busy ≡ nat_le most_windows (count name.eui windows) → busy ≡ true → open_reply windows f ≡ reply.Busy name.eui
open-busy windows f name busy named_so busy_is full =
    ap (λ b. cond b (reply.Busy f.eui) (reply.Opened (window_of f))) (ap (λ (v : WindowName). nat_le most_windows (count v.eui windows)) (sym named_so) ∙ (sym busy_is ∙ full))
    ∙ ap (λ (v : WindowName). reply.Busy v.eui) (sym named_so)

-- the reply to one that is opened again
pub again-told : (devices : List Own) (windows : List Window) (frame : List ℕ) (f : Fit) (round : ℕ) (name : WindowName) (busy : Bool) → Some round ≡ cond (is_confirmed frame) (round_of devices windows f) None → name ≡ in_round f round → busy ≡ nat_le most_windows (count name.eui windows)
    → again_reply devices windows frame f ≡ cond busy (reply.Busy name.eui) (reply.Again name)
again-told devices windows frame f round name busy is named_so busy_is =
    ap (λ o. first_case (option_map (λ r. unless_busy f.eui (count f.eui windows) (reply.Again (in_round f r))) o ∷ []) (reply.Old f.eui f.session f.counter)) (sym is)
    ∙ (ap (λ (v : WindowName). cond (nat_le most_windows (count v.eui windows)) (reply.Busy v.eui) (reply.Again v)) (sym named_so) ∙ ap (λ b. cond b (reply.Busy name.eui) (reply.Again name)) (sym busy_is))

pub again-free : (devices : List Own) (windows : List Window) (frame : List ℕ) (f : Fit) (round : ℕ) (name : WindowName) (busy : Bool) → Some round ≡ cond (is_confirmed frame) (round_of devices windows f) None → name ≡ in_round f round → busy ≡ nat_le most_windows (count name.eui windows)
    → busy ≡ false → again_reply devices windows frame f ≡ reply.Again name
again-free devices windows frame f round name busy is named_so busy_is free =
    again-told devices windows frame f round name busy is named_so busy_is ∙ ap (λ b. cond b (reply.Busy name.eui) (reply.Again name)) free

pub again-busy : (devices : List Own) (windows : List Window) (frame : List ℕ) (f : Fit) (round : ℕ) (name : WindowName) (busy : Bool) → Some round ≡ cond (is_confirmed frame) (round_of devices windows f) None → name ≡ in_round f round → busy ≡ nat_le most_windows (count name.eui windows)
    → busy ≡ true → again_reply devices windows frame f ≡ reply.Busy name.eui
again-busy devices windows frame f round name busy is named_so busy_is full =
    again-told devices windows frame f round name busy is named_so busy_is ∙ ap (λ b. cond b (reply.Busy name.eui) (reply.Again name)) full

-- the reply where there is no round
pub again-old : (devices : List Own) (windows : List Window) (frame : List ℕ) (f : Fit) → None ≡ cond (is_confirmed frame) (round_of devices windows f) None → again_reply devices windows frame f ≡ reply.Old f.eui f.session f.counter
again-old devices windows frame f is =
    ap (λ o. first_case (option_map (λ r. unless_busy f.eui (count f.eui windows) (reply.Again (in_round f r))) o ∷ []) (reply.Old f.eui f.session f.counter)) (sym is)

-- a frame that no open window has adds no copy
none-copied : (frame : List ℕ) (heard : Heard) (windows now : List Window) → window_of_frame frame windows ≡ None → now ≡ with_copy_of frame heard windows → now ≡ windows
none-copied frame heard windows now none is = is ∙ ap (λ (o : Option Window). option_map_or (λ (w : Window). with_copy_in w.name heard windows) o windows) none

-- the reply to one that fits at or below it alone, and to one that fits nowhere
stale-reply : (devices : List Own) (windows : List Window) (frame : List ℕ) (f : Fit) → window_of_frame frame windows ≡ None → first_own_fit above frame devices ≡ None → first_own_fit below frame devices ≡ Some f → again_reply devices windows frame f ≡ uplink_reply devices windows frame
stale-reply devices windows frame f none fresh fits = rw (none, fresh, fits)

unfit-reply : (devices : List Own) (windows : List Window) (frame : List ℕ) → window_of_frame frame windows ≡ None → first_own_fit above frame devices ≡ None → first_own_fit below frame devices ≡ None → reply.NoSession ≡ uplink_reply devices windows frame
unfit-reply devices windows frame none fresh stale = rw (none, fresh, stale)

-- ---- what comes of an uplink, by its reply

module _ (frame : List ℕ) (heard : Heard) (devices : List Own) (windows : List Window) where
  pub busy-taken : (eui : DevEui) (r : Reply) → r ≡ reply.Busy eui → IsTaken frame heard devices windows r (event.Quiet (reply.Busy eui)) devices windows
  busy-taken eui r is = rw is (record { event = refl; devices = refl; windows = refl })

  pub old-taken : (eui : DevEui) (session counter : ℕ) (r : Reply) → r ≡ reply.Old eui session counter → IsTaken frame heard devices windows r (event.Quiet (reply.Old eui session counter)) devices windows
  old-taken eui session counter r is = rw is (record { event = refl; devices = refl; windows = refl })

  pub opened-taken : (name : WindowName) (r : Reply) (ds : List Own) (ws : List Window) → r ≡ reply.Opened name → ds ≡ with_change_of name.eui (with_uplink name.session name.fcnt) devices → ws ≡ with_window frame heard name (keys_in devices name) windows
      → IsTaken frame heard devices windows r (event.Opened (reply.Opened name)) ds ws
  opened-taken name r ds ws is after kept = rw is (record { event = refl; devices = after; windows = kept })

  pub again-taken : (name : WindowName) (r : Reply) (ds : List Own) (ws : List Window) → r ≡ reply.Again name → ds ≡ with_change_of name.eui (with_round name.session name.round) devices → ws ≡ with_window frame heard name (keys_in devices name) windows
      → IsTaken frame heard devices windows r (event.Opened (reply.Again name)) ds ws
  again-taken name r ds ws is after kept = rw is (record { event = refl; devices = after; windows = kept })

  pub opened-refused : (name : WindowName) (r : Reply) (ws : List Window) → r ≡ reply.Opened name → ws ≡ windows → IsRefused frame heard devices windows r devices ws
  opened-refused name r ws is kept = rw is (record { memory = refl; devices = refl; windows = kept })

  pub again-refused : (name : WindowName) (r : Reply) (ws : List Window) → r ≡ reply.Again name → ws ≡ windows → IsRefused frame heard devices windows r devices ws
  again-refused name r ws is kept = rw is (record { memory = refl; devices = refl; windows = kept })

  -- one more copy
  added : (w : Window) (b : Bool) → let r = cond b (reply.Copied w.name (length w.copies.items + 1)) (reply.Crowded w.name) in IsTaken frame heard devices windows r (event.Quiet r) devices (with_copy_in w.name heard windows)
  added w true = record { event = refl; devices = refl; windows = refl }
  added w false = record { event = refl; devices = refl; windows = refl }

  added-is : (w : Window) (b : Bool) → added_reply (cond b (addition.Copied w.name (length w.copies.items + 1)) (addition.Crowded w.name)) ≡ cond b (reply.Copied w.name (length w.copies.items + 1)) (reply.Crowded w.name)
  added-is w true = refl
  added-is w false = refl

  pub copied-taken : (a : Addition) (r : Reply) (ws : List Window) → Some a ≡ option_map addition (window_of_frame frame windows) → ws ≡ with_copy_of frame heard windows → r ≡ added_reply a
      → IsTaken frame heard devices windows (uplink_reply devices windows frame) (event.Quiet r) devices ws
  copied-taken a r ws told now is = step (window_of_frame frame windows) refl told now
    where
      step : (o : Option Window) → window_of_frame frame windows ≡ o → Some a ≡ option_map addition o → ws ≡ option_map_or (λ (w : Window). with_copy_in w.name heard windows) o windows → IsTaken frame heard devices windows (uplink_reply devices windows frame) (event.Quiet r) devices ws
      step None e some copied = absurd (cc)
      step (Some w) e some copied =
          let b : Bool = nat_lt (length w.copies.items) most_copies in
          let what : a ≡ addition w = cc in
          let said = is ∙ (ap (λ (x : Addition). added_reply x) what ∙ added-is w b) in
          rw (e, said, copied) (added w b)

  -- what comes of an uplink whose growth was refused
  pub refused-ends : (r : Reply) (ws : List Window) (result : Result Event AllocError) → IsErr result → IsRefused frame heard devices windows r devices ws → UplinkEnds frame heard devices windows r result devices ws
  refused-ends r ws (Ok e) failed told = absurd (cc failed)
  refused-ends r ws (Err e) failed told = told

-- ---- an uplink that adds no copy

module _ (frame : List ℕ) (heard : Heard) (devices : List Own) (windows ws : List Window) (told : None ≡ option_map addition (window_of_frame frame windows)) (now : ws ≡ with_copy_of frame heard windows) where
  none-framed : window_of_frame frame windows ≡ None
  none-framed = nothing-framed frame windows told

  kept : ws ≡ windows
  kept = none-copied frame heard windows ws none-framed now

  pub still-none : window_of_frame frame ws ≡ None
  still-none = ap (window_of_frame frame) kept ∙ none-framed

  -- one that fits above the greatest counter
  module _ (f : Fit) {view : List ℕ} (read : view ≡ frame) (fits : Some f ≡ first_own_fit above view devices) where
    fresh : open_reply windows f ≡ uplink_reply devices windows frame
    fresh = fresh-reply devices windows frame f none-framed (ap (λ (b : List ℕ). first_own_fit above b devices) (sym read) ∙ sym fits)

    pub fresh-place : CanOpen devices windows frame → open_reply ws f ≡ reply.Opened (window_of f) → HasPlace devices ws (window_of f)
    fresh-place can opened =
        subst (λ (x : List Window). HasPlace devices x (window_of f)) (sym kept) (can.place (window_of f) (sym fresh ∙ (ap (λ (x : List Window). open_reply x f) (sym kept) ∙ opened)))

    pub fresh-ends : (result : Result Event AllocError) (ds' : List Own) (ws' : List Window) → UplinkEnds frame heard devices ws (open_reply ws f) result ds' ws' → UplinkEnds frame heard devices windows (uplink_reply devices windows frame) result ds' ws'
    fresh-ends result ds' ws' ends =
        subst (λ (r : Reply). UplinkEnds frame heard devices windows r result ds' ws') fresh (subst (λ (x : List Window). UplinkEnds frame heard devices x (open_reply x f) result ds' ws') kept ends)

  -- one that fits at or below it, or nowhere
  module _ {view : List ℕ} (read : view ≡ frame) (above_none : None ≡ first_own_fit above view devices) where
    no_fresh : first_own_fit above frame devices ≡ None
    no_fresh = ap (λ (b : List ℕ). first_own_fit above b devices) (sym read) ∙ sym above_none

    stale : (f : Fit) → Some f ≡ first_own_fit below view devices → again_reply devices windows frame f ≡ uplink_reply devices windows frame
    stale f fits = stale-reply devices windows frame f none-framed no_fresh (ap (λ (b : List ℕ). first_own_fit below b devices) (sym read) ∙ sym fits)

    pub stale-place : (f : Fit) → Some f ≡ first_own_fit below view devices → CanOpen devices windows frame → (name : WindowName) → again_reply devices ws frame f ≡ reply.Again name → HasPlace devices ws name
    stale-place f fits can name again =
        subst (λ (x : List Window). HasPlace devices x name) (sym kept) (can.again name (sym (stale f fits) ∙ (ap (λ (x : List Window). again_reply devices x frame f) (sym kept) ∙ again)))

    pub stale-ends : (f : Fit) → Some f ≡ first_own_fit below view devices → (result : Result Event AllocError) (ds' : List Own) (ws' : List Window) → UplinkEnds frame heard devices ws (again_reply devices ws frame f) result ds' ws'
        → UplinkEnds frame heard devices windows (uplink_reply devices windows frame) result ds' ws'
    stale-ends f fits result ds' ws' ends =
        subst (λ (r : Reply). UplinkEnds frame heard devices windows r result ds' ws') (stale f fits) (subst (λ (x : List Window). UplinkEnds frame heard devices x (again_reply devices x frame f) result ds' ws') kept ends)

    pub unfit-taken : None ≡ first_own_fit below view devices → IsTaken frame heard devices windows (uplink_reply devices windows frame) (event.Quiet reply.NoSession) devices ws
    unfit-taken fits =
        subst (λ (r : Reply). IsTaken frame heard devices windows r (event.Quiet reply.NoSession) devices ws)
        (unfit-reply devices windows frame none-framed no_fresh (ap (λ (b : List ℕ). first_own_fit below b devices) (sym read) ∙ sym fits)) (record { event = refl; devices = refl; windows = kept })
