-- How the devices of a shard change with one more entry.
use Rattle.std.proofs.Common.{◌≡◌, ℕ, false, List, [], ◌∷◌, map, refl, sym, ap, ap₂, subst, inl, inr}
use Rattle.ns_types.specs.declared.identity.DevEui.{DevEui}
use Rattle.ns_roster.specs.declared.Device.{Device}
use Rattle.ns_roster.specs.Network.{Network}
use Rattle.ns_roster.specs.Valid.{IsRoster}
use Rattle.ns_calls.specs.declared.call.Entry.{Entry}
use Rattle.ns_calls.specs.Entries.{same_device}
use Rattle.ns_calls.proofs.LocalLemmas.{bool_tells, All-each}
use Rattle.ns_calls.proofs.Lists.{All-weaker}
use Rattle.ns_calls.proofs.JoinLemmas.{same_device-eq}
use Rattle.ns_sessions.specs.Record.{DeviceRecord, device_record}
use Rattle.ns_devices.specs.declared.own.Own.{Own}
use Rattle.ns_shard.specs.Tables.{own_in, devices_in}
use Rattle.ns_devices.specs.Devices.{devices_of, own, is_own, with_state, change_first, with_change_of}
use Rattle.ns_shard.proofs.Maps.{map-same}
use Rattle.ns_shard.proofs.Roster.{AreDistinct, own-distinct}

-- what the entries g say of the other devices is what h say
abbrev pub OthersSame : Network → List Entry → List Entry → DevEui → Type 0
OthersSame net g h eui = (other : DevEui) → same_device other eui ≡ false → device_record net g other ≡ device_record net h other

-- a change of one device's record
change-one : (net : Network) (h g : List Entry) (eui : DevEui) (f : DeviceRecord → DeviceRecord) (ds : List Device) → AreDistinct ds → OthersSame net g h eui → device_record net g eui ≡ f (device_record net h eui) →
    map (own_in net g) ds ≡ change_first (is_own eui) (with_state f) (map (own_in net h) ds)
change-one net h g eui f [] apart others this = refl
change-one net h g eui f (d ∷ ds) apart others this =
    elim (bool_tells (same_device d.eui eui)) [
      | inl same ↦
          (let is : d.eui ≡ eui = same_device-eq d.eui eui same in
          let record_is : device_record net g d.eui ≡ f (device_record net h d.eui) = subst (λ (e : DevEui). device_record net g e ≡ f (device_record net h e)) (sym is) this in
          let rest : map (own_in net g) ds ≡ map (own_in net h) ds =
          map-same (own_in net g) (own_in net h) ds
          (All-weaker (λ (x : Device). same_device x.eui d.eui ≡ false) (λ (x : Device). own_in net g x ≡ own_in net h x)
          (λ x differs. ap (λ r. own net r x) (others x.eui (subst (λ (e : DevEui). same_device x.eui e ≡ false) is differs))) ds apart.0) in
          rw same (ap₂ (λ (o : Own) os. o ∷ os) (ap (λ r. own net r d) record_is) rest))
      | inr differs ↦
          rw differs (ap₂ (λ (o : Own) os. o ∷ os) (ap (λ r. own net r d) (others d.eui differs)) (change-one net h g eui f ds apart.1 others this))
    ]

pub devices-changed : (net : Network) (index : ℕ) (h g : List Entry) (eui : DevEui) (f : DeviceRecord → DeviceRecord) → IsRoster net → OthersSame net g h eui → device_record net g eui ≡ f (device_record net h eui) →
    devices_in net index g ≡ with_change_of eui f (devices_in net index h)
devices-changed net index h g eui f valid others this = change-one net h g eui f (devices_of net index) (own-distinct net index valid) others this

pub devices-same : (net : Network) (index : ℕ) (h g : List Entry) → ((eui : DevEui) → device_record net g eui ≡ device_record net h eui) → devices_in net index g ≡ devices_in net index h
devices-same net index h g same =
    map-same (own_in net g) (own_in net h) (devices_of net index)
    (All-each (λ (d : Device). own_in net g d ≡ own_in net h d) (λ d. ap (λ r. own net r d) (same d.eui)) (devices_of net index))
