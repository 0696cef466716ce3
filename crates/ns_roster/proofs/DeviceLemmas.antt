-- The devices of a valid roster: what is found of them, and where their addresses are.
use Rattle.std.proofs.Common.{◌≡◌, ℕ, suc, zero, ◌≤◌, List, [], ◌∷◌, false, ◌&&◌, Option, Some, None, IfSome, option_map, refl, sym, ◌∙◌, ap, arith, eqb, get_or, All, AllPairs, inl, inr}
use Rattle.std.specs.Prelude.{find, Contains, ◌==◌}
use Rattle.std.specs.List.{list_any}
use Rattle.std.proofs.Math.Bool.{or-false}
use Rattle.std.proofs.lemmas.Bool.{cases_Bool, eqb-true, eq-eqb, ne_eqb, and_left, cond_both}
use Rattle.std.proofs.lemmas.Option.{IfSome_then}
use Rattle.std.proofs.lemmas.List.Elements.{All-contains, Contains-append_right}
use Rattle.std.proofs.lemmas.List.Folds.{list_any_none}
use Rattle.ns_types.specs.declared.identity.DevEui.{DevEui}
use Rattle.ns_types.specs.declared.identity.JoinEui.{JoinEui}
use Rattle.ns_types.specs.Identity.{shard_of, shard_of_addr}
use Rattle.ns_roster.specs.declared.Device.{Device}
use Rattle.ns_roster.specs.Network.{Network, device, device_addr, has_join_eui, is_known}
use Rattle.ns_roster.specs.Valid.{max_slot, Differ, IsRoster}

-- the DevEUI of a number
eui_of : ℕ → DevEui
eui_of n = record { 0 = n }

-- the device that is found is one of the devices, and has the DevEUI that was asked for
found : (eui : DevEui) (ds : List Device) → IfSome (find (λ d. d.eui.0 == eui.0) ds) (λ d. Contains ds d × (d.eui ≡ eui))
unfolding eui_of
found eui [] = tt
found eui (x ∷ ds) =
    cond_both (eqb x.eui.0 eui.0) (Some x) (find (λ d. d.eui.0 == eui.0) ds) (λ o. IfSome o (λ d. Contains (x ∷ ds) d × (d.eui ≡ eui)))
    (λ same. ((0, omega arith, refl), ap eui_of (eqb-true x.eui.0 eui.0 same)))
    (λ _. IfSome_then (find (λ d. d.eui.0 == eui.0) ds) (found eui ds) (λ d h. (Contains-append_right (x ∷ []) ds d h.0, h.1)))

-- and so is what stands for it
pub device-held : {X : Type 0} (f : X → Device) (o : Option X) (eui : DevEui) (ds : List Device) → option_map f o ≡ find (λ d. d.eui.0 == eui.0) ds
    → IfSome o (λ x. Contains ds (f x) × ((f x).eui ≡ eui))
device-held f None eui ds is = tt
device-held f (Some x) eui ds is = rw (← is) at (found eui ds)

pub found-device : (net : Network) (eui : DevEui) (d : Device) → device net eui ≡ Some d → Contains net.devices d × (d.eui ≡ eui)
found-device net eui d h = rw h at (found eui net.devices)

-- the address of a device is in the device's shard
pub shard_of_device_addr : (net : Network) (d : Device) → d.slot ≤ max_slot → shard_of_addr (device_addr net d) ≡ shard_of d.eui
shard_of_device_addr net d slot = omega arith

-- every later device differs from the first one, and so do the later ones among themselves
pub later_differ : (x : Device) (ds : List Device) → AllPairs Differ (x ∷ ds) → All (Differ x) ds
later_differ x ds apart = λ k d within. apart 0 (suc k) d (omega arith) (omega arith)

pub rest_apart : (x : Device) (ds : List Device) → AllPairs Differ (x ∷ ds) → AllPairs Differ ds
rest_apart x ds apart = λ i j d before within. apart (suc i) (suc j) d (omega arith) (omega arith)

-- after a device of this EUI no other one passes
none_passes : (eui : DevEui) (join_eui : JoinEui) (x : Device) (ds : List Device) → x.eui.0 ≡ eui.0 → All (Differ x) ds
    → list_any (λ d. (d.eui.0 == eui.0) && (d.join_eui.0 == join_eui.0)) ds ≡ false
none_passes eui join_eui x ds same differ =
    list_any_none (λ d. (d.eui.0 == eui.0) && (d.join_eui.0 == join_eui.0)) ds
    (λ k d within. and_left _ _ (ne_eqb (get_or ds k d).eui.0 eui.0 (λ e. differ k d within (same ∙ sym e))))

-- where DevEUIs are apart, a device is known by its JoinEUI exactly where the one that is found has it
pub known-by_device : (eui : DevEui) (join_eui : JoinEui) (ds : List Device) → AllPairs Differ ds
    → list_any (λ d. (d.eui.0 == eui.0) && (d.join_eui.0 == join_eui.0)) ds ≡ has_join_eui join_eui (find (λ d. d.eui.0 == eui.0) ds)
known-by_device eui join_eui [] apart = refl
known-by_device eui join_eui (d ∷ ds) apart = elim (cases_Bool (eqb d.eui.0 eui.0)) [
  | inl t ↦ rw (t, none_passes eui join_eui d ds (eqb-true d.eui.0 eui.0 t) (later_differ d ds apart)) (or-false (eqb d.join_eui.0 join_eui.0))
  | inr f ↦ rw f (known-by_device eui join_eui ds (rest_apart d ds apart))
]

pub is_known-by_device : (net : Network) → IsRoster net → (eui : DevEui) (join_eui : JoinEui) → is_known net eui join_eui ≡ has_join_eui join_eui (device net eui)
is_known-by_device net valid eui join_eui = known-by_device eui join_eui net.devices valid.devices.distinct

-- the address of one of a valid roster's devices is in its shard
pub shard_of_device : (net : Network) → IsRoster net → (d : Device) → Contains net.devices d → shard_of_addr (device_addr net d) ≡ shard_of d.eui
shard_of_device net valid d held = shard_of_device_addr net d (All-contains (λ (x : Device). x.slot ≤ max_slot) net.devices d valid.devices.slots held)

-- where DevEUIs are apart, a device is found at its DevEUI
contained_found : (eui : DevEui) (ds : List Device) (d : Device) → AllPairs Differ ds → Contains ds d → d.eui ≡ eui → find (λ x. x.eui.0 == eui.0) ds ≡ Some d
contained_found eui [] d apart held same = absurd (omega (arith, held.1))
contained_found eui (x ∷ ds) d apart (zero, within, here) same = rw (here, same, eq-eqb eui.0 eui.0 refl) refl
contained_found eui (x ∷ ds) d apart (suc k, within, here) same =
    let later : Contains ds d = (k, omega arith, here) in
    elim (cases_Bool (eqb x.eui.0 eui.0)) [
      | inl t ↦ absurd (All-contains (Differ x) ds d (later_differ x ds apart) later (eqb-true x.eui.0 eui.0 t ∙ ap (λ (e : DevEui). e.0) (sym same)))
      | inr f ↦ rw f (contained_found eui ds d (rest_apart x ds apart) later same)
    ]

pub device-found : (net : Network) → IsRoster net → (eui : DevEui) (d : Device) → Contains net.devices d × (d.eui ≡ eui) → device net eui ≡ Some d
device-found net valid eui d h = contained_found eui net.devices d valid.devices.distinct h.0 h.1
