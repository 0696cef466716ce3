-- Lemmas on the first fault of a roster's text.
use Rattle.std.proofs.Common.{◌≡◌, ◌≢◌, ℕ, ◌+◌, ◌<◌, List, Bool, true, false, not, Option, Some, None, Ok, Err, length, get_or, drop, map, refl, sym, ◌∙◌, ap, is_some}
use Rattle.std.specs.Prelude.{Result, if◌then◌else◌, nat_le, codes}
use Rattle.std.specs.Option.{option_map_or}
use Rattle.std.proofs.lemmas.Bool.{le-leb}
use Rattle.std.proofs.lemmas.List.{at_drop_more, get_or-map, length-map}
use Rattle.serde_json.specs.Data.{Data, Items}
use Rattle.ns_roster.specs.declared.Device.{Device}
use Rattle.ns_roster.specs.declared.fault.RosterFault.{RosterFault}
use Rattle.ns_roster.specs.Field.{whole_at, list_at}
use Rattle.ns_roster.specs.Text.{Outer, net_id_at, is_version, items_list, with_value, outer_of}
use Rattle.ns_roster.specs.Valid.{max_rx1_offset, max_rx_delay}
use Rattle.ns_roster_place.specs.declared.place.OuterField.TheVariants.{Version, NetId, Rx1Offset, RxDelay, Devices}
use Rattle.ns_roster_place.specs.Outer.{is_version_at, is_at_most, wrong_outer}
use Rattle.ns_roster_place.specs.Wrong.{HasNoneUpTo, IsWrongOuter}
use Rattle.ns_roster_place.specs.Place.{or_after, in_device, fault_from}

-- the first fault from one value on, where that value gives a device, and where it gives a fault
pub fault_from-next : {X : Type 0} (version : ℕ) (f : X → Data) (devices : List Device) (vs : List X) (i : ℕ) (v : X) (r : Result (List Device) RosterFault)
    → i < length vs → v ≡ get_or vs i v → with_value version devices (f v) ≡ r
    → fault_from version devices (i + 1) (drop i (map f vs)) ≡ or_after r (in_device (i + 1) (f v)) (λ more. fault_from version more (i + 1 + 1) (drop (i + 1) (map f vs)))
fault_from-next version f devices vs i v r within item step =
    let here : get_or (map f vs) i (f v) ≡ f v = get_or-map f vs i v (f v) within ∙ ap f (sym item) in
    let inside : i < length (map f vs) = rw (length-map vs f) within in
    at_drop_more (fault_from version devices (i + 1)) (map f vs) i (f v) inside
    ∙ ap (λ d. or_after (with_value version devices d) (in_device (i + 1) d) (λ more. fault_from version more (i + 1 + 1) (drop (i + 1) (map f vs)))) here
    ∙ ap (λ s. or_after s (in_device (i + 1) (f v)) (λ more. fault_from version more (i + 1 + 1) (drop (i + 1) (map f vs)))) step

-- a test of an option's number that holds, and one that does not
holds_of : (p : ℕ → Bool) (o : Option ℕ) → option_map_or p o false ≡ true → (n : ℕ) × (o ≡ Some n) × (p n ≡ true)
holds_of p None h = cc
holds_of p (Some n) h = (n, refl, h)

fails_at : (p : ℕ → Bool) (o : Option ℕ) → option_map_or p o false ≡ false → (n : ℕ) → p n ≡ true → o ≢ Some n
fails_at p o h n holds found = let bad : p n ≡ false = (rw found at h) in let no : true ≡ false = sym holds ∙ bad in cc

none_of : {A : Type 0} (o : Option A) → is_some o ≡ false → o ≡ None
none_of None h = refl
none_of (Some x) h = cc

some_of : {A : Type 0} (o : Option A) → is_some o ≡ true → (x : A) × (o ≡ Some x)
some_of None h = cc
some_of (Some x) h = (x, refl)

-- no number up to the greatest stands where the test of it fails
none_up_to : (most : ℕ) (key : List ℕ) (d : Data) → is_at_most key most d ≡ false → HasNoneUpTo most key d
none_up_to most key d h n le = fails_at (λ n. nat_le n most) (whole_at key d) h n (le-leb n most le)

ok_no_err : (x : Outer) (f : RosterFault) → Ok x ≢ Err f
ok_no_err x f same = cc

-- outer fields that all are right are no fault
right_outer : (d : Data) (f : RosterFault) (v n o r : ℕ) (l : Items) → whole_at (codes "version") d ≡ Some v → is_version v ≡ true → net_id_at (codes "net_id") d ≡ Some n
    → whole_at (codes "rx1_offset") d ≡ Some o → nat_le o max_rx1_offset ≡ true → whole_at (codes "rx_delay") d ≡ Some r → nat_le r max_rx_delay ≡ true
    → list_at (codes "devices") d ≡ Some l → outer_of d ≢ Err f
unfolding outer_of
right_outer d f v n o r l version is net_id offset small delay short devices h =
    ok_no_err (record { version = v; net_id = record { 0 = n }; rx1_offset = o; rx_delay = r; devices = items_list l }) f (rw (version, net_id, offset, delay, devices, is, small, short) at h)

pub named_outer : (d : Data) (f : RosterFault) → outer_of d ≡ Err f → IsWrongOuter d (wrong_outer d)
named_outer d f h = by_version (is_version_at d) refl
  where
    by_devices : (l : Option Items) → list_at (codes "devices") d ≡ l → is_version_at d ≡ true → is_some (net_id_at (codes "net_id") d) ≡ true
        → is_at_most (codes "rx1_offset") max_rx1_offset d ≡ true → is_at_most (codes "rx_delay") max_rx_delay d ≡ true → list_at (codes "devices") d ≡ None
    by_devices None e a b g k = e
    by_devices (Some l) e a b g k =
        let v = holds_of is_version (whole_at (codes "version") d) a in
        let n = some_of (net_id_at (codes "net_id") d) b in
        let o = holds_of (λ n. nat_le n max_rx1_offset) (whole_at (codes "rx1_offset") d) g in
        let r = holds_of (λ n. nat_le n max_rx_delay) (whole_at (codes "rx_delay") d) k in
        absurd (right_outer d f v.0 n.0 o.0 r.0 l v.1 v.2 n.1 o.1 o.2 r.1 r.2 e h)

    by_delay : (b : Bool) → is_at_most (codes "rx_delay") max_rx_delay d ≡ b → is_version_at d ≡ true → is_some (net_id_at (codes "net_id") d) ≡ true
        → is_at_most (codes "rx1_offset") max_rx1_offset d ≡ true → IsWrongOuter d (if not b then RxDelay else Devices)
    by_delay false e a n o = none_up_to max_rx_delay (codes "rx_delay") d e
    by_delay true e a n o = by_devices (list_at (codes "devices") d) refl a n o e

    by_offset : (b : Bool) → is_at_most (codes "rx1_offset") max_rx1_offset d ≡ b → is_version_at d ≡ true → is_some (net_id_at (codes "net_id") d) ≡ true
        → IsWrongOuter d (if not b then Rx1Offset else if not (is_at_most (codes "rx_delay") max_rx_delay d) then RxDelay else Devices)
    by_offset false e a n = none_up_to max_rx1_offset (codes "rx1_offset") d e
    by_offset true e a n = by_delay (is_at_most (codes "rx_delay") max_rx_delay d) refl a n e

    by_net_id : (b : Bool) → is_some (net_id_at (codes "net_id") d) ≡ b → is_version_at d ≡ true
        → IsWrongOuter d (if not b then NetId else if not (is_at_most (codes "rx1_offset") max_rx1_offset d) then Rx1Offset else if not (is_at_most (codes "rx_delay") max_rx_delay d) then RxDelay else Devices)
    by_net_id false e a = none_of (net_id_at (codes "net_id") d) e
    by_net_id true e a = by_offset (is_at_most (codes "rx1_offset") max_rx1_offset d) refl a e

    by_version : (b : Bool) → is_version_at d ≡ b
        → IsWrongOuter d (if not b then Version else if not (is_some (net_id_at (codes "net_id") d)) then NetId else if not (is_at_most (codes "rx1_offset") max_rx1_offset d) then Rx1Offset else if not (is_at_most (codes "rx_delay") max_rx_delay d) then RxDelay else Devices)
    by_version false e = (fails_at is_version (whole_at (codes "version") d) e 1 refl, fails_at is_version (whole_at (codes "version") d) e 2 refl)
    by_version true e = by_net_id (is_some (net_id_at (codes "net_id") d)) refl e
