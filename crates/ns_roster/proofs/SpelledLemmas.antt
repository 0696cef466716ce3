-- A text is accepted exactly where it spells a valid network.
use Rattle.std.proofs.Common.{◌≡◌, ◌⊎◌, ℕ, suc, ◌≤◌, List, [], ◌∷◌, ◌++◌, Bool, true, false, not, ◌&&◌, Option, Some, None, Ok, Err, option_map, length, refl, sym, ◌∙◌, ap, inl, inr, arith, eqb, is_some, All, AllPairs}
use Rattle.std.specs.Prelude.{Result, if◌then◌else◌, ◌==◌, nat_le, nat_lt, codes}
use Rattle.std.specs.Option.{ok_or}
use Rattle.std.specs.Option.{option_map_or, option_and_then}
use Rattle.std.proofs.Math.Bool.{and-false}
use Rattle.std.proofs.lemmas.Bool.{cases_Bool, eqb-true, eqb-false, ne_eqb, leb-true, le-leb, ltb-false, le-ltb, and_parts, and_cases, not-false}
use Rattle.std.proofs.lemmas.List.Elements.{All-contains, Contains-append_right}
use Rattle.std.proofs.lemmas.Bool.Decides.{nat_tests}
use Rattle.std.proofs.lemmas.List.{append_assoc, append-nil}
use Rattle.serde_json.specs.Data.{Data, null, Items}
use Rattle.serde_json.specs.Find.{get, as_null, as_number, as_u64}
use Rattle.ns_types.specs.declared.identity.DevNonce.{DevNonce}
use Rattle.ns_types.specs.Results.{◌>>=◌}
use Rattle.ns_types.proofs.ResultLemmas.{bind-ok, ok_or-ok}
use Rattle.ns_roster.specs.declared.Device.{Device}
use Rattle.ns_roster.specs.declared.fault.RosterFault.{RosterFault}
use Rattle.ns_roster.specs.declared.fault.RosterFault.TheVariants.{NotJson, Field, Slot, Twice, TooMany}
use Rattle.ns_roster.specs.declared.fault.RosterFault.TheVariants as fault
use Rattle.ns_roster.specs.Field.{value_of, is_missing, whole_at, list_at}
use Rattle.ns_roster.specs.Network.{Network}
use Rattle.ns_roster.specs.Text.{Outer, eui_at, net_id_at, items_list, is_version, outer_from, outer_of, nonce_from, last_nonce_of, device_from, device_of, device_with, with_device, with_value, devices_from, network_of, network_from, roster_of}
use Rattle.ns_roster.specs.Valid.{max_slot, max_nonce, max_rx1_offset, max_rx_delay, max_net_id, max_devices, Differ, AreDevices, IsRoster}
use Rattle.ns_roster.specs.Spelled.{SpellsNonce, SpellsDevice, SpellDevices, SpellsNetwork, Spells}
use Rattle.ns_roster.proofs.ValidLemmas.{AreDevices-push}
use Rattle.ns_roster.proofs.DeviceLemmas.{later_differ, rest_apart}

-- the test passed
test-ok : {A : Type 0} (b : Bool) (e : RosterFault) (x y : A) → (if b then Ok x else Err e) ≡ Ok y → (b ≡ true) × (x ≡ y)
test-ok true e x y h = (refl, cc)
test-ok false e x y h = cc

-- the test for a fault did not pass
fault-ok : {A : Type 0} (b : Bool) (e : RosterFault) (r : Result A RosterFault) (y : A) → (if b then Err e else r) ≡ Ok y → (b ≡ false) × (r ≡ Ok y)
fault-ok true e r y h = cc
fault-ok false e r y h = (refl, h)

no_devices : AreDevices []
no_devices = record { slots = λ k d within. absurd (omega arith); distinct = λ i j d before within. absurd (omega arith) }

-- what holds of each holds of one in the middle
middle : (P : Device → Type 0) (acc : List Device) (x : Device) (xs : List Device) → All P (acc ++ x ∷ xs) → P x
middle P acc x xs each = All-contains P (acc ++ x ∷ xs) x each (Contains-append_right acc (x ∷ xs) x (0, omega arith, refl))

-- where DevEUIs are apart, a device's is not among those before it
absent_before : (acc : List Device) (x : Device) (xs : List Device) → AllPairs Differ (acc ++ x ∷ xs) → is_some (device_with x.eui.0 acc) ≡ false
absent_before [] x xs apart = refl
absent_before (y ∷ acc) x xs apart = elim (cases_Bool (eqb y.eui.0 x.eui.0)) [
  | inl t ↦ absurd (middle (Differ y) acc x xs (later_differ y (acc ++ x ∷ xs) apart) (eqb-true y.eui.0 x.eui.0 t))
  | inr f ↦ rw f (absent_before acc x xs (rest_apart y (acc ++ x ∷ xs) apart))
]

-- ---- last nonces

-- a number that is a nonce
nonce-spelled : (w : Option ℕ) (o : Option DevNonce) → (ok_or w Field >>= nonce_from) ≡ Ok o → (n : DevNonce) × (o ≡ Some n) × (w ≡ Some n.0) × (n.0 ≤ max_nonce)
nonce-spelled None o h = cc
nonce-spelled (Some n) o h =
    let t = test-ok (nat_le n max_nonce) Field (Some (record { 0 = n })) o h in
    (record { 0 = n }, sym t.1, refl, leb-true n max_nonce t.0)

-- a whole number is not missing
there-not_missing : (o : Option Data) (n : ℕ) → option_and_then as_u64 (option_and_then as_number o) ≡ Some n → option_map_or (λ found. is_some (as_null found)) o true ≡ false
there-not_missing None n h = cc
there-not_missing (Some null) n h = cc
there-not_missing (Some d) n h = refl

-- the last nonce of a device that was accepted is the one that its value spells
last_nonce-spelled : (version : ℕ) (d : Data) (o : Option DevNonce) → last_nonce_of version d ≡ Ok o → SpellsNonce version d o
last_nonce-spelled version d o h = elim (cases_Bool ((version == 2) && not (is_missing (codes "last_nonce") d))) [
  | inl named ↦
      let p = nonce-spelled (whole_at (codes "last_nonce") d) o (rw named at h) in
      rw p.1 (eqb-true version 2 (and_parts _ _ named).0, p.2, p.3)
  | inr unnamed ↦
      let none : None ≡ o = (let g = rw unnamed at h in cc) in
      rw (← none) (elim (and_cases _ _ unnamed) [ inl other ↦ inl (eqb-false version 2 other) | inr missing ↦ inr (not-false _ missing) ])
]

-- a last nonce that a value spells is accepted
last_nonce-from_spelled : (version : ℕ) (d : Data) (o : Option DevNonce) → SpellsNonce version d o → last_nonce_of version d ≡ Ok o
last_nonce-from_spelled version d None (inl other) = rw (ne_eqb version 2 other) refl
last_nonce-from_spelled version d None (inr missing) = rw (missing, and-false (version == 2)) refl
last_nonce-from_spelled version d (Some n) (two, at, fits) =
    let there = there-not_missing (get (codes "last_nonce") d) n.0 at in
    rw (two, there, at, le-leb n.0 max_nonce fits) refl

-- ---- devices

-- a device that was accepted has the fields' values
device_fields : (e j s : Option ℕ) (l : Result (Option DevNonce) RosterFault) (x : Device)
    → (ok_or e Field >>= λ eui. ok_or j Field >>= λ join_eui. ok_or s Field >>= λ slot. l >>= λ last_nonce. device_from eui join_eui slot last_nonce) ≡ Ok x
    → (e ≡ Some x.eui.0) × (j ≡ Some x.join_eui.0) × (s ≡ Some x.slot) × (l ≡ Ok x.last_nonce) × (x.slot ≤ max_slot)
device_fields (Some e) (Some j) (Some s) (Ok nonce) x h =
    let y : Device = record { eui = record { 0 = e }; join_eui = record { 0 = j }; slot = s; last_nonce = nonce } in
    let t = test-ok (nat_le s max_slot) Slot y x h in
    rw (← t.1) (refl, refl, refl, refl, leb-true s max_slot t.0)
device_fields e j s l x h = cc

-- a device that was accepted is the one that its value spells
device-spelled : (version : ℕ) (d : Data) (x : Device) → device_of version d ≡ Ok x → SpellsDevice version d x × (x.slot ≤ max_slot)
unfolding device_of
device-spelled version d x h =
    let p = device_fields (eui_at (codes "dev_eui") d) (eui_at (codes "join_eui") d) (whole_at (codes "slot") d) (last_nonce_of version d) x h in
    (record { eui = p.0; join_eui = p.1; slot = p.2; last_nonce = last_nonce-spelled version d x.last_nonce p.3 }, p.4)

-- a device that a value spells is accepted
device-from_spelled : (version : ℕ) (d : Data) (x : Device) → SpellsDevice version d x → x.slot ≤ max_slot → device_of version d ≡ Ok x
unfolding device_of
device-from_spelled version d x spelled slot =
    rw (spelled.eui, spelled.join_eui, spelled.slot, last_nonce-from_spelled version d x.last_nonce spelled.last_nonce, le-leb x.slot max_slot slot) refl

-- a device that was added has a DevEUI of its own
device_added : (acc : List Device) (x : Device) (more : List Device) → with_device acc x ≡ Ok more → (is_some (device_with x.eui.0 acc) ≡ false) × (acc ++ x ∷ [] ≡ more)
device_added acc x more h =
    let p = fault-ok (is_some (device_with x.eui.0 acc)) Twice (Ok (acc ++ x ∷ [])) more h in (p.0, cc)

-- devices that were accepted are those that the values spell, and are valid
devices-spelled : (version : ℕ) (acc : List Device) (values : List Data) (ds : List Device) → AreDevices acc → devices_from version acc values ≡ Ok ds
    → (xs : List Device) × (acc ++ xs ≡ ds) × SpellDevices version values xs × AreDevices ds
devices-spelled version acc [] ds valid h =
    let same : acc ≡ ds = cc in
    ([], append-nil acc ∙ same, tt, rw (← same) valid)
devices-spelled version acc (d ∷ rest) ds valid h =
    let p = bind-ok (with_value version acc d) (λ more. devices_from version more rest) ds h in
    let q = bind-ok (device_of version d) (with_device acc) p.0 p.1 in
    let spelled = device-spelled version d q.0 q.1 in
    let added = device_added acc q.0 p.0 q.2 in
    let next : AreDevices p.0 = rw (← added.1) (AreDevices-push acc q.0 valid spelled.1 added.0) in
    let r = devices-spelled version p.0 rest ds next p.2 in
    (q.0 ∷ r.0, sym (append_assoc acc (q.0 ∷ []) r.0) ∙ ap (λ front. front ++ r.0) added.1 ∙ r.1, (spelled.0, r.2), r.3)

-- devices that the values spell, and that are valid, are accepted
devices-from_spelled : (version : ℕ) (acc : List Device) (values : List Data) (xs : List Device) → SpellDevices version values xs → AreDevices (acc ++ xs) → devices_from version acc values ≡ Ok (acc ++ xs)
devices-from_spelled version acc [] [] spelled valid = ap Ok (sym (append-nil acc))
devices-from_spelled version acc (d ∷ rest) (x ∷ xs) spelled valid =
    let whole : acc ++ x ∷ [] ++ xs ≡ acc ++ x ∷ xs = append_assoc acc (x ∷ []) xs in
    let one = device-from_spelled version d x spelled.0 (middle (λ z. z.slot ≤ max_slot) acc x xs valid.slots) in
    let none = absent_before acc x xs valid.distinct in
    rw (one, none) (devices-from_spelled version (acc ++ x ∷ []) rest xs spelled.1 (rw whole valid) ∙ ap Ok whole)
devices-from_spelled version acc values xs spelled valid = absurd spelled

-- there is one device for each value
length-spelled : (version : ℕ) (values : List Data) (xs : List Device) → SpellDevices version values xs → length xs ≡ length values
length-spelled version [] [] spelled = refl
length-spelled version (d ∷ ds) (x ∷ xs) spelled = ap suc (length-spelled version ds xs spelled.1)
length-spelled version values xs spelled = absurd spelled

-- the versions that are read
one_or_two : (v : ℕ) → is_version v ≡ true → (v ≡ 1) ⊎ (v ≡ 2)
one_or_two v h = grind (arith, nat_tests)

is_version-true : (v : ℕ) → (v ≡ 1) ⊎ (v ≡ 2) → is_version v ≡ true
is_version-true v h = grind (arith, nat_tests)

-- outer fields that were accepted have the fields' values, in their ranges
outer_fields : (v n o r : Option ℕ) (l : Option Items) (x : Outer)
    → (ok_or v Field >>= λ version. ok_or n Field >>= λ net_id. ok_or o Field >>= λ rx1_offset. ok_or r Field >>= λ rx_delay. ok_or l Field >>= λ devices. outer_from version net_id rx1_offset rx_delay devices) ≡ Ok x
    → (v ≡ Some x.version) × ((x.version ≡ 1) ⊎ (x.version ≡ 2)) × (n ≡ Some x.net_id.0) × (o ≡ Some x.rx1_offset) × (r ≡ Some x.rx_delay) × (option_map items_list l ≡ Some x.devices) × (x.rx1_offset ≤ max_rx1_offset) × (x.rx_delay ≤ max_rx_delay)
outer_fields (Some v) (Some n) (Some o) (Some r) (Some l) x h =
    let y : Outer = record { version = v; net_id = record { 0 = n }; rx1_offset = o; rx_delay = r; devices = items_list l } in
    let t = test-ok (is_version v && nat_le o max_rx1_offset && nat_le r max_rx_delay) Field y x h in
    let p = and_parts (is_version v && nat_le o max_rx1_offset) (nat_le r max_rx_delay) t.0 in
    let q = and_parts (is_version v) (nat_le o max_rx1_offset) p.0 in
    rw (← t.1) (refl, one_or_two v q.0, refl, refl, refl, refl, leb-true o max_rx1_offset q.1, leb-true r max_rx_delay p.1)
outer_fields v n o r l x h = cc

-- a network that was accepted is the one of its outer fields and of its devices
network-spelled : (outer : Outer) (net : Network) → network_from outer ≡ Ok net
    → (outer.net_id.0 ≤ max_net_id) × (length outer.devices ≤ max_devices) × (network_of outer net.devices ≡ net) × SpellDevices outer.version outer.devices net.devices × AreDevices net.devices
network-spelled outer net h =
    let p = fault-ok (nat_lt max_net_id outer.net_id.0) fault.NetId (if nat_lt max_devices (length outer.devices) then Err TooMany else (devices_from outer.version [] outer.devices >>= λ devices. Ok (network_of outer devices))) net h in
    let q = fault-ok (nat_lt max_devices (length outer.devices)) TooMany (devices_from outer.version [] outer.devices >>= λ devices. Ok (network_of outer devices)) net p.1 in
    let r = bind-ok (devices_from outer.version [] outer.devices) (λ devices. Ok (network_of outer devices)) net q.1 in
    let e : network_of outer r.0 ≡ net = (let h = r.2 in cc) in
    let s = devices-spelled outer.version [] outer.devices r.0 no_devices r.1 in
    rw (← e) (ltb-false max_net_id outer.net_id.0 p.0, ltb-false max_devices (length outer.devices) q.0, refl, rw (← s.1) s.2, s.3)

-- the list behind its values
found_list : (l : Option Items) (values : List Data) → option_map items_list l ≡ Some values → (items : Items) × (l ≡ Some items) × (items_list items ≡ values)
found_list None values h = cc
found_list (Some items) values h = (items, refl, cc)

-- the outer fields of a value that spells a network
outer_at : ℕ → Network → List Data → Outer
outer_at version net values = record { version = version; net_id = net.net_id; rx1_offset = net.rx1_offset; rx_delay = net.rx_delay; devices = values }

outer-from_spelled : (d : Data) (net : Network) (spelled : SpellsNetwork d net) → IsRoster net → outer_of d ≡ Ok (outer_at spelled.version net spelled.values)
unfolding outer_of outer_at
outer-from_spelled d net spelled valid =
    let l = found_list (list_at (codes "devices") d) spelled.values spelled.list in
    rw (spelled.version_at, spelled.net_id, spelled.rx1_offset, spelled.rx_delay, l.1, is_version-true spelled.version spelled.one_or_two, le-leb net.rx1_offset max_rx1_offset valid.rx1_offset, le-leb net.rx_delay max_rx_delay valid.rx_delay, l.2) refl

network-from_spelled : (version : ℕ) (net : Network) (values : List Data) → SpellDevices version values net.devices → IsRoster net → network_from (outer_at version net values) ≡ Ok net
unfolding outer_at
network-from_spelled version net values spelled valid =
    rw (le-ltb max_net_id net.net_id.0 valid.net_id, le-ltb max_devices (length values) (rw (← length-spelled version values net.devices spelled) valid.count), devices-from_spelled version [] values net.devices spelled valid.devices) refl

pub accepted-from_spelled : (bytes : List ℕ) (net : Network) → Spells bytes net × IsRoster net → roster_of bytes ≡ Ok net
unfolding roster_of
accepted-from_spelled bytes net h =
    let d = h.0.0 in
    let spelled : SpellsNetwork d net = h.0.2 in
    rw (h.0.1, outer-from_spelled d net spelled h.1) (network-from_spelled spelled.version net spelled.values spelled.devices h.1)

pub spelled-from_accepted : (bytes : List ℕ) (net : Network) → roster_of bytes ≡ Ok net → Spells bytes net × IsRoster net
unfolding roster_of outer_of
spelled-from_accepted bytes net h =
    let p = bind-ok (ok_or (value_of bytes) NotJson) (λ d. outer_of d >>= network_from) net h in
    let d = p.0 in
    let q = bind-ok (outer_of d) network_from net p.2 in
    let f = outer_fields (whole_at (codes "version") d) (net_id_at (codes "net_id") d) (whole_at (codes "rx1_offset") d) (whole_at (codes "rx_delay") d) (list_at (codes "devices") d) q.0 q.1 in
    let n = network-spelled q.0 net q.2 in
    rw (← n.2) (
      (
        d,
        ok_or-ok (value_of bytes) NotJson d p.1,
        record {
          version = q.0.version;
          one_or_two = f.1;
          version_at = f.0;
          net_id = f.2;
          rx1_offset = f.3;
          rx_delay = f.4;
          values = q.0.devices;
          list = f.5;
          devices = n.3;
        },
      ),
      record {
        net_id = n.0;
        rx1_offset = f.6;
        rx_delay = f.7;
        count = rw (length-spelled q.0.version q.0.devices net.devices n.3) n.1;
        devices = n.4;
      },
    )
