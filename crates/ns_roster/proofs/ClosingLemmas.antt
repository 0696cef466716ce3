-- The text of a roster with last nonces is read back.
use Rattle.std.proofs.Common.{◌≡◌, ℕ, zero, suc, ◌<◌, ◌≤◌, ◌+◌, ◌^◌, List, [], ◌∷◌, ◌++◌, false, Option, None, Some, IfSome, Ok, refl, subst, take, sym, ◌∙◌, ap, inr, arith, length, map, get_or}
use Rattle.std.specs.Str.{IsUtf8}
use Rattle.std.proofs.lemmas.List.{map-append, take_more, take_all}
use Rattle.serde_json.specs.declared.value.Value.{Value}
use Rattle.serde_json.specs.Data.{Data, depth, items_depth}
use Rattle.serde_json.specs.Read.{read, max_depth}
use Rattle.serde_json.specs.View.{view, items_of}
use Rattle.serde_json.specs.Written.{has_float, items_have_float}
use Rattle.ns_types.specs.declared.identity.DevNonce.{DevNonce}
use Rattle.ns_roster.specs.declared.Device.{Device}
use Rattle.ns_roster.specs.Network.{Network}
use Rattle.ns_roster.specs.Text.{roster_of}
use Rattle.ns_roster.specs.Valid.{max_nonce, AreDevices, IsRoster}
use Rattle.ns_roster.specs.Spelled.{SpellsDevice, SpellDevices}
use Rattle.ns_roster.specs.Closing.{device_value, network_value, devices_with, with_nonces}
use Rattle.ns_roster.proofs.TextLemmas.{value_of-some, items_list_of_items}
use Rattle.ns_roster.proofs.HexLemmas.{eui-read, net_id-read}
use Rattle.ns_roster.proofs.SpelledLemmas.{accepted-from_spelled}

-- ---- one device

-- the value of a device spells it
pub device_value-spells : (d : Device) → d.eui.0 < 2 ^ 64 → d.join_eui.0 < 2 ^ 64 → IfSome d.last_nonce (λ n. n.0 ≤ max_nonce) → SpellsDevice 2 (device_value d) d
device_value-spells d eui join_eui fits = elim d.last_nonce as (λ o. IfSome o (λ n. n.0 ≤ max_nonce) → let x = record d { last_nonce = o } in SpellsDevice 2 (device_value x) x) [
  | None ↦ λ _. record { eui = eui-read d.eui.0 eui; join_eui = eui-read d.join_eui.0 join_eui; slot = refl; last_nonce = inr refl }
  | Some n ↦ λ below. record { eui = eui-read d.eui.0 eui; join_eui = eui-read d.join_eui.0 join_eui; slot = refl; last_nonce = (refl, refl, below) }
] fits

-- it has no float, and nests once
has_float-device : (d : Device) → has_float (device_value d) ≡ false
has_float-device d = grind arith

depth-device : (d : Device) → depth (device_value d) ≤ 1
depth-device d = grind arith

items_have_float-devices : (ds : List Device) → items_have_float (items_of (map device_value ds)) ≡ false
items_have_float-devices [] = refl
items_have_float-devices (d ∷ ds) = rw (has_float-device d) (items_have_float-devices ds)

items_depth-devices : (ds : List Device) → items_depth (items_of (map device_value ds)) ≤ 1
items_depth-devices [] = omega arith
items_depth-devices (d ∷ ds) = omega (arith, depth-device d, items_depth-devices ds)

-- ---- a network

pub has_float-network : (net : Network) (ds : List Device) → has_float (network_value net (items_of (map device_value ds))) ≡ false
has_float-network net ds = rw (items_have_float-devices ds) refl

pub depth-network : (net : Network) (ds : List Device) → depth (network_value net (items_of (map device_value ds))) ≤ max_depth
depth-network net ds = omega (arith, items_depth-devices ds)

-- the text of a valid network is read to it
pub network-read : (net : Network) (text : List ℕ) → IsRoster net → SpellDevices 2 (map device_value net.devices) net.devices → IsUtf8 text
    → read text ≡ Some (network_value net (items_of (map device_value net.devices))) → roster_of text ≡ Ok net
network-read net text valid spelled utf8 found =
    let d : Data = network_value net (items_of (map device_value net.devices)) in
    accepted-from_spelled text net (
      (
        d,
        value_of-some text d utf8 found,
        record {
          version = 2;
          one_or_two = inr refl;
          version_at = refl;
          net_id = net_id-read net.net_id.0 valid.net_id;
          rx1_offset = refl;
          rx_delay = refl;
          values = map device_value net.devices;
          list = ap Some (items_list_of_items (map device_value net.devices));
          devices = spelled;
        },
      ),
      valid,
    )

-- ---- devices with last nonces

pub length-devices_with : (ds : List Device) (ns : List (Option DevNonce)) → length ns ≡ length ds → length (devices_with ds ns) ≡ length ds
length-devices_with [] ns same = refl
length-devices_with (d ∷ ds) [] same = absurd (omega (arith, same))
length-devices_with (d ∷ ds) (n ∷ ns) same = ap suc (length-devices_with ds ns (omega (arith, same)))

pub get_or-devices_with : (ds : List Device) (ns : List (Option DevNonce)) (i : ℕ) (x d : Device) (n : Option DevNonce) → i < length ds → i < length ns
    → get_or (devices_with ds ns) i x ≡ record (get_or ds i d) { last_nonce = get_or ns i n }
get_or-devices_with (e ∷ ds) (m ∷ ns) zero x d n within also = refl
get_or-devices_with (e ∷ ds) (m ∷ ns) (suc i) x d n within also = get_or-devices_with ds ns i x d n (omega (arith, within)) (omega (arith, also))
get_or-devices_with ds ns i x d n within also = absurd (omega (arith, within, also))

pub SpellDevices-push : (version : ℕ) (values : List Data) (xs : List Device) (d : Data) (x : Device) → SpellDevices version values xs → SpellsDevice version d x
    → SpellDevices version (values ++ d ∷ []) (xs ++ x ∷ [])
SpellDevices-push version [] [] d x spelled one = (one, tt)
SpellDevices-push version (e ∷ ds) (y ∷ xs) d x spelled one = (spelled.0, SpellDevices-push version ds xs d x spelled.1 one)
SpellDevices-push version values xs d x spelled one = absurd spelled

-- a last nonce changes neither DevEUIs nor slots
AreDevices-with : (ds : List Device) (ns : List (Option DevNonce)) → length ns ≡ length ds → AreDevices ds → AreDevices (devices_with ds ns)
AreDevices-with ds ns same are = record {
  slots = λ k d within. (
      let inside : k < length ds = rw (length-devices_with ds ns same) at within in
      rw (get_or-devices_with ds ns k d d None inside (rw same inside)) (are.slots k d inside)
      );
  distinct = λ i j d before within. (
      let inside : j < length ds = rw (length-devices_with ds ns same) at within in
      let first : i < length ds = omega (arith, before, inside) in
      rw (get_or-devices_with ds ns i d d None first (rw same first), get_or-devices_with ds ns j d d None inside (rw same inside)) (are.distinct i j d before inside)
      );
}

pub IsRoster-with : (net : Network) (ns : List (Option DevNonce)) → length ns ≡ length net.devices → IsRoster net → IsRoster (with_nonces net ns)
IsRoster-with net ns same valid = record {
  net_id = valid.net_id;
  rx1_offset = valid.rx1_offset;
  rx_delay = valid.rx_delay;
  count = rw (length-devices_with net.devices ns same) valid.count;
  devices = AreDevices-with net.devices ns same valid.devices;
}

-- ---- the values of the devices, one after another

-- the values are those of the devices, which they spell
pub record AreValues (vs : List Value) (ds : List Device) : Type 0 where
  pub values : map view vs ≡ map device_value ds
  pub spell : SpellDevices 2 (map device_value ds) ds

AreValues-push : (vs : List Value) (ds : List Device) (v : Value) (d : Device) → AreValues vs ds → view v ≡ device_value d → SpellsDevice 2 (device_value d) d → AreValues (vs ++ v ∷ []) (ds ++ d ∷ [])
AreValues-push vs ds v d are is spells = record {
  values = simp (map-append, are.values, is);
  spell = rw map-append (SpellDevices-push 2 (map device_value ds) ds (device_value d) d are.spell spells);
}

-- one device more
pub AreValues-next : (ds : List Device) (ns : List (Option DevNonce)) (i : ℕ) (d : Device) (n : Option DevNonce) (vs : List Value) (v : Value) → length ns ≡ length ds → i < length ds
    → AreValues vs (take i (devices_with ds ns))
    → view v ≡ device_value (record (get_or ds i d) { last_nonce = get_or ns i n })
    → SpellsDevice 2 (device_value (record (get_or ds i d) { last_nonce = get_or ns i n })) (record (get_or ds i d) { last_nonce = get_or ns i n })
    → AreValues (vs ++ v ∷ []) (take (i + 1) (devices_with ds ns))
AreValues-next ds ns i d n vs v same within are is spells =
    let all : List Device = devices_with ds ns in
    let x : Device = record (get_or ds i d) { last_nonce = get_or ns i n } in
    let inside : i < length all = rw (length-devices_with ds ns same) within in
    let here : get_or all i x ≡ x = get_or-devices_with ds ns i x d n within (rw same within) in
    let more : take i all ++ x ∷ [] ≡ take (i + 1) all = sym (take_more all i x inside ∙ ap (λ y. take i all ++ y ∷ []) here) in
    subst (AreValues (vs ++ v ∷ [])) more (AreValues-push vs (take i all) v x are is spells)

-- all devices
pub AreValues-all : (ds : List Device) (ns : List (Option DevNonce)) (i : ℕ) (vs : List Value) → length ns ≡ length ds → length ds ≤ i → AreValues vs (take i (devices_with ds ns)) → AreValues vs (devices_with ds ns)
AreValues-all ds ns i vs same end are = rw (take_all i (devices_with ds ns) (rw (length-devices_with ds ns same) end)) at are
