-- One device more.
use Rattle.std.proofs.Common.{◌≡◌, ◌≢◌, ℕ, suc, zero, ◌<◌, ◌≤◌, List, [], ◌∷◌, ◌++◌, Bool, false, cond, Option, Some, length, get_or, arith, eqb, is_some}
use Rattle.std.proofs.lemmas.Bool.{eqb-false}
use Rattle.std.proofs.lemmas.List.Elements.{All-push}
use Rattle.std.proofs.lemmas.List.Quantifiers.{all_pairs_push}
use Rattle.ns_roster.specs.declared.Device.{Device}
use Rattle.ns_roster.specs.Text.{device_with}
use Rattle.ns_roster.specs.Valid.{max_slot, Differ, AreDevices}

not_first : (b : Bool) (x : Device) (o : Option Device) → is_some (cond b (Some x) o) ≡ false → (b ≡ false) × (is_some o ≡ false)
not_first b x o h = grind arith

-- a DevEUI at which no device is found is none of theirs
absent_differs : (eui : ℕ) (ds : List Device) → is_some (device_with eui ds) ≡ false → (k : ℕ) (d : Device) → k < length ds → (get_or ds k d).eui.0 ≢ eui
absent_differs eui [] none k d within = absurd (omega arith)
absent_differs eui (x ∷ xs) none zero d within = eqb-false x.eui.0 eui (not_first (eqb x.eui.0 eui) x (device_with eui xs) none).0
absent_differs eui (x ∷ xs) none (suc k) d within = absent_differs eui xs (not_first (eqb x.eui.0 eui) x (device_with eui xs) none).1 k d (omega arith)

pub AreDevices-push : (ds : List Device) (x : Device) → AreDevices ds → x.slot ≤ max_slot → is_some (device_with x.eui.0 ds) ≡ false → AreDevices (ds ++ x ∷ [])
AreDevices-push ds x are slot none = record {
  slots = All-push (λ (d : Device). d.slot ≤ max_slot) ds x are.slots slot;
  distinct = all_pairs_push Differ ds x are.distinct (absent_differs x.eui.0 ds none);
}
