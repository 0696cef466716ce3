-- The devices of a shard are those of the roster that are asked for.
use Rattle.ns_shard.specs.State.{known_greatest}
use Rattle.ns_devices.specs.declared.own.Own.{Own}
use Rattle.std.specs.Option.{option_and_then}
use Rattle.std.proofs.Common.{◌≡◌, ℕ, ◌==◌, Bool, true, false, List, [], ◌∷◌, filter, filter_map, map, Option, Some, option_map, refl, sym, ap, ◌∙◌, inl, inr, None}
use Rattle.std.specs.Prelude.{AllPairs, Contains}
use Rattle.std.specs.List.{AllByRecursion, cons_option}
use Rattle.std.proofs.lemmas.List.Elements.{recursion_from_All, All-contains_itself}
use Rattle.ns_types.specs.declared.identity.DevEui.{DevEui}
use Rattle.ns_types.specs.Identity.{shard_of, shard_of_addr}
use Rattle.ns_views.specs.Frame.{data_fields}
use Rattle.ns_roster.specs.declared.Device.{Device}
use Rattle.ns_roster.specs.Network.{Network, device, device_addr}
use Rattle.ns_roster.specs.Valid.{IsRoster, Differ}
use Rattle.ns_roster.proofs.DeviceLemmas.{shard_of_device, later_differ, rest_apart, found-device}
use Rattle.ns_calls.specs.declared.call.Entry.{Entry}
use Rattle.ns_calls.specs.Queries.{first}
use Rattle.ns_calls.specs.Entries.{same_device}
use Rattle.ns_calls.specs.History.{greatest_nonce}
use Rattle.ns_calls.specs.Reply as plain
use Rattle.ns_calls.specs.Reply.{fit_of, first_fit}
use Rattle.ns_calls.proofs.LocalLemmas.{bool_tells, All-each}
use Rattle.ns_calls.proofs.Lists.{All-weaker, find-own, filter_map-same}
use Rattle.ns_calls.proofs.JoinLemmas.{same_device-eq}
use Rattle.ns_sessions.specs.Record.{device_fit, device_record}
use Rattle.ns_shard.specs.Tables.{own_in, devices_in}
use Rattle.ns_devices.specs.Devices.{devices_of, is_own, own_of, own_fit, is_addressed, first_own_fit}
use Rattle.ns_shard.proofs.Maps.{find-map, filter-map}
use Rattle.std.proofs.lemmas.Bool.{ne_eqb, eq-eqb, eqb-true}
use Rattle.ns_windows.specs.Windows.{NoTwo}
use Rattle.ns_windows.proofs.Pairs.{NoTwo-filter}

-- each device of a roster is one of its devices
pub members : (net : Network) → AllByRecursion (Contains net.devices) net.devices
members net = recursion_from_All (Contains net.devices) net.devices (All-contains_itself net.devices)

-- ---- distinct EUIs

abbrev pub AreDistinct : List Device → Type 0
AreDistinct = NoTwo (λ d x. same_device x.eui d.eui)

differs : (d x : Device) → Differ d x → same_device x.eui d.eui ≡ false
differs d x differ = ne_eqb x.eui.0 d.eui.0 (λ same. differ (sym same))

distinct : (ds : List Device) → AllPairs Differ ds → AreDistinct ds
distinct [] pairs = tt
distinct (d ∷ ds) pairs =
    (All-weaker (Differ d) (λ (x : Device). same_device x.eui d.eui ≡ false) (differs d) ds (recursion_from_All (Differ d) ds (later_differ d ds pairs)), distinct ds (rest_apart d ds pairs))

pub own-distinct : (net : Network) (index : ℕ) → IsRoster net → AreDistinct (devices_of net index)
own-distinct net index valid = NoTwo-filter (λ (d x : Device). same_device x.eui d.eui) (λ (d : Device). shard_of d.eui == index) net.devices (distinct net.devices valid.devices.distinct)

-- ---- what is found

-- the device of an EUI of the shard
pub own-found : (net : Network) (index : ℕ) (h : List Entry) (eui : DevEui) → shard_of eui ≡ index → own_of eui (devices_in net index h) ≡ option_map (own_in net h) (device net eui)
own-found net index h eui mine =
    find-map (own_in net h) (is_own eui) (devices_of net index)
    ∙ ap (option_map (own_in net h)) (find-own own (λ (d : Device). same_device d.eui eui) net.devices (All-each (λ (d : Device). same_device d.eui eui ≡ true → own d ≡ true) tells net.devices))
  where
    own : Device → Bool
    own d = shard_of d.eui == index

    tells : (d : Device) → same_device d.eui eui ≡ true → own d ≡ true
    tells d is = eq-eqb (shard_of d.eui) index (ap shard_of (same_device-eq d.eui eui is) ∙ mine)

-- the greatest nonce of a device of the shard
pub greatest-found : (net : Network) (index : ℕ) (h : List Entry) (eui : DevEui) → shard_of eui ≡ index
    → option_and_then (λ (o : Own). o.state.greatest_nonce) (own_of eui (devices_in net index h)) ≡ known_greatest net h eui
unfolding device_record
greatest-found net index h eui mine = ap (option_and_then (λ (o : Own). o.state.greatest_nonce)) (own-found net index h eui mine) ∙ step (device net eui) refl
  where
    step : (found : Option Device) → device net eui ≡ found → option_and_then (λ (o : Own). o.state.greatest_nonce) (option_map (own_in net h) found) ≡ option_and_then (λ (d : Device). greatest_nonce net h eui) found
    step None is = refl
    step (Some d) is = ap (greatest_nonce net h) (found-device net eui d is).1

-- ---- what fits

filter-filter : {X : Type 0} (p q : X → Bool) (xs : List X) → AllByRecursion (λ x. p x ≡ true → q x ≡ true) xs → filter p (filter q xs) ≡ filter p xs
filter-filter p q [] tells = refl
filter-filter p q (x ∷ xs) tells =
    let ih = filter-filter p q xs tells.1 in
    elim (bool_tells (p x)) [
      | inl passes ↦ rw (tells.0 passes, passes, ih)
      | inr fails ↦ elim (bool_tells (q x)) [ inl kept ↦ rw (kept, fails, ih) | inr dropped ↦ rw (dropped, fails, ih) ]
    ]

filter_map-map : {X Y Z : Type 0} (f : X → Y) (g : Y → Option Z) (xs : List X) → filter_map g (map f xs) ≡ filter_map (λ x. g (f x)) xs
filter_map-map f g [] = refl
filter_map-map f g (x ∷ xs) = ap (cons_option (g (f x))) (filter_map-map f g xs)

-- the sessions that a device's record holds fit where the plain server says
abbrev pub FitsAgree : (Option ℕ → ℕ → Option ℕ) → Network → List Entry → List ℕ → Type 0
FitsAgree recover net h frame = (eui : DevEui) → option_map (λ p. fit_of eui p.0 p.1) (device_fit recover frame (device_record net h eui)) ≡ plain.device_fit recover h frame eui

-- the first of the shard's devices that fits is the first of the roster's
pub fit-own : (recover : Option ℕ → ℕ → Option ℕ) (net : Network) (index : ℕ) (h : List Entry) (frame : List ℕ) → IsRoster net → FitsAgree recover net h frame →
    shard_of_addr (record { 0 = (data_fields frame).addr }) ≡ index → first_own_fit recover frame (devices_in net index h) ≡ first_fit recover net h frame
fit-own recover net index h frame valid agree mine =
    ap first
    (ap (filter_map (own_fit recover frame)) (filter-map (own_in net h) (is_addressed frame) (devices_of net index))
    ∙ (filter_map-map (own_in net h) (own_fit recover frame) (filter addressed (devices_of net index))
    ∙ (ap (filter_map (λ (d : Device). own_fit recover frame (own_in net h d))) (filter-filter addressed (λ (d : Device). shard_of d.eui == index) net.devices tells)
    ∙ filter_map-same (λ (d : Device). own_fit recover frame (own_in net h d)) (λ (d : Device). plain.device_fit recover h frame d.eui) (filter addressed net.devices)
    (All-each (λ (d : Device). own_fit recover frame (own_in net h d) ≡ plain.device_fit recover h frame d.eui) (λ d. agree d.eui) (filter addressed net.devices)))))
  where
    addressed : Device → Bool
    addressed d = (device_addr net d).0 == (data_fields frame).addr

    tell : (d : Device) → Contains net.devices d → addressed d ≡ true → (shard_of d.eui == index) ≡ true
    tell d member is =
        let addr : (device_addr net d).0 ≡ (data_fields frame).addr = eqb-true (device_addr net d).0 (data_fields frame).addr is in
        eq-eqb (shard_of d.eui) index (sym (shard_of_device net valid d member) ∙ (ap (λ n. shard_of_addr (record { 0 = n })) addr ∙ mine))

    tells : AllByRecursion (λ (d : Device). addressed d ≡ true → (shard_of d.eui == index) ≡ true) net.devices
    tells = All-weaker (Contains net.devices) (λ (d : Device). addressed d ≡ true → (shard_of d.eui == index) ≡ true) tell net.devices (members net)
