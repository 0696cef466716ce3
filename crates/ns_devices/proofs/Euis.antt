-- Devices by EUI.
use Rattle.std.proofs.Common.{◌≡◌, ◌==◌, nat_lt, ℕ, ◌+◌, zero, suc, Bool, false, not, cond, List, [], ◌∷◌, ◌++◌, length, map, drop, find, position, slice_get, set, Option, None, Some, refl, sym, ap, ap₂, subst, ◌∙◌, arith}
use Rattle.std.specs.List.{AllByRecursion, IsDistinct, position_or_len}
use Rattle.std.specs.Map.{lookup, keys_of, values_of}
use Rattle.std.proofs.lemmas.Grind.{common_steps}
use Rattle.std.proofs.lemmas.Option.{slice_get_within}
use Rattle.std.proofs.lemmas.Bool.Decides.{nat_tests}
use Rattle.std.proofs.lemmas.List.{length-map, map-append}
use Rattle.indexmap.specs.IndexMap.{set_value_at}
use Rattle.smallvec.specs.SmallVec.{SmallVec}
use Rattle.ns_types.specs.declared.identity.DevAddr.{DevAddr}
use Rattle.ns_types.specs.declared.identity.DevEui.{DevEui}
use Rattle.ns_views.specs.Frame.{data_fields}
use Rattle.ns_calls.specs.Entries.{same_device}
use Rattle.ns_sessions.proofs.OpenTickets.{same_device-refl}
use Rattle.ns_sessions.specs.Record.{DeviceRecord}
use Rattle.ns_devices.specs.declared.own.Own.{Own}
use Rattle.ns_devices.specs.Devices.{is_own, is_addressed, change_first, with_state}
use Rattle.ns_rows.specs.Rows.{row_in}
use Rattle.ns_devices.specs.Places.{Agree, places_from}
use Rattle.ns_devices.proofs.Addressed.{places-push, places-set}
use Rattle.ns_devices.proofs.Positions.{set-placed}

abbrev eui : Own → DevEui
eui o = o.device.eui

-- ---- the place of a device

same_device-sym : (d e : DevEui) → same_device d e ≡ same_device e d
same_device-sym d e = grind (arith, nat_tests)

-- what holds of all, mapped, holds of the one at a place
all-at : {X Y : Type 0} (P : Y → Type 0) (f : X → Y) (xs : List X) (i : ℕ) (x : X) → AllByRecursion P (map f xs) → slice_get xs i ≡ Some x → P (f x)
all-at P f [] i x all at = absurd (cc at)
all-at P f (y ∷ ys) zero x all at = let same : y ≡ x = cc in subst (λ z. P (f z)) same all.0
all-at P f (y ∷ ys) (suc i) x all at = all-at P f ys i x all.1 at

stands : (os : List Own) (i : ℕ) (o : Own) → IsDistinct same_device (map eui os) → slice_get os i ≡ Some o → position_or_len (is_own (eui o)) os ≡ i
unfolding IsDistinct
stands [] i o apart at = absurd (cc at)
stands (x ∷ xs) zero o apart at = grind (arith, same_device-refl (eui o))
stands (x ∷ xs) (suc i) o apart at = grind (arith, all-at (λ e. same_device (eui x) e ≡ false) eui xs i o apart.0 at, stands xs i o apart.1 at)

-- a device stands where its EUI is found
pub place-own : (os : List Own) (i : ℕ) (o : Own) → IsDistinct same_device (map (λ x. x.device.eui) os) → slice_get os i ≡ Some o → position (is_own o.device.eui) os ≡ Some i
place-own os i o apart at = grind (arith, common_steps, stands os i o apart at, slice_get_within os i o at)

-- the place among the EUIs is the place in the list
pub place-eui : (d : DevEui) (os : List Own) → position (λ e. same_device d e) (map (λ o. o.device.eui) os) ≡ position (is_own d) os
place-eui d os = ap₂ (λ m n. cond {A = Option ℕ} (nat_lt m n) (Some m) None) (first os) (length-map os eui)
  where
    first : (xs : List Own) → position_or_len (λ e. same_device d e) (map eui xs) ≡ position_or_len (is_own d) xs
    first [] = refl
    first (x ∷ xs) = ap₂ (λ b n. cond (not b) (1 + n) 0) (same_device-sym d (eui x)) (first xs)

-- what stands at an EUI is the device of it
pub lookup-eui : (d : DevEui) (es : List (DevEui × Own)) → keys_of es ≡ map (λ o. o.device.eui) (values_of es) → lookup (λ e. same_device d e) es ≡ find (is_own d) (values_of es)
lookup-eui d [] euis = refl
lookup-eui d (e ∷ es) euis = grind (arith, same_device-sym d (eui e.1), lookup-eui d es (ap (drop 1) euis))

-- ---- a device more

pub values-push : (es : List (DevEui × Own)) (d : DevEui) (o : Own) → values_of (es ++ (d, o) ∷ []) ≡ values_of es ++ o ∷ []
values-push es d o = map-append (λ (e : DevEui × Own). e.1) es ((d, o) ∷ [])

euis-push : (es : List (DevEui × Own)) (o : Own) → keys_of es ≡ map (λ x. x.device.eui) (values_of es)
    → keys_of (es ++ (o.device.eui, o) ∷ []) ≡ map (λ x. x.device.eui) (values_of (es ++ (o.device.eui, o) ∷ []))
euis-push es o euis =
    map-append (λ (e : DevEui × Own). e.0) es ((eui o, o) ∷ [])
    ∙ ap (λ ks. ks ++ eui o ∷ []) euis
    ∙ sym (ap (map eui) (values-push es (eui o) o) ∙ map-append eui (values_of es) (o ∷ []))

places-added : (es : List (DevEui × Own)) (old new : List (ℕ × SmallVec ℕ)) (o : Own) → Agree es old
    → ((a : ℕ) → row_in new a ≡ row_in old a ++ cond (o.addr.0 == a) (length es ∷ []) [])
    → (a : ℕ) → row_in new a ≡ places_from (λ x. x.addr.0 == a) 0 (values_of (es ++ (o.device.eui, o) ∷ []))
places-added es old new o agree more a =
    let long : length (values_of es) ≡ length es = length-map es (λ (e : DevEui × Own). e.1) in
    let pushed = places-push (λ (x : Own). x.addr.0 == a) 0 (values_of es) o in
    grind (arith, more a, agree.places a, long, values-push es (eui o) o, pushed)

pub agree-push : (es : List (DevEui × Own)) (old new : List (ℕ × SmallVec ℕ)) (o : Own) → Agree es old → IsDistinct same_device (keys_of (es ++ (o.device.eui, o) ∷ []))
    → ((a : ℕ) → row_in new a ≡ row_in old a ++ cond (o.addr.0 == a) (length es ∷ []) [])
    → Agree (es ++ (o.device.eui, o) ∷ []) new
agree-push es old new o agree apart more = record {
  euis = euis-push es o agree.euis;
  apart = apart;
  places = places-added es old new o agree more;
}

-- ---- a write of a device that keeps its EUI and its address

pub values-set : (es : List (DevEui × Own)) (i : ℕ) (o : Own) → values_of (set_value_at es i o) ≡ set (values_of es) i o
values-set [] i o = refl
values-set (e ∷ es) zero o = refl
values-set (e ∷ es) (suc i) o = ap (λ os. e.1 ∷ os) (values-set es i o)

-- a change of the first value that passes, at its place
pub values-changed : (test : Own → Bool) (f : Own → Own) (es : List (DevEui × Own)) (i : ℕ) (x y : Own) → position test (values_of es) ≡ Some i → slice_get (values_of es) i ≡ Some x → y ≡ f x
    → values_of (set_value_at es i y) ≡ change_first test f (values_of es)
values-changed test f es i x y at is changed = values-set es i y ∙ ap (set (values_of es) i) changed ∙ set-placed test f (values_of es) i x at is

keys-set : (es : List (DevEui × Own)) (i : ℕ) (o : Own) → keys_of (set_value_at es i o) ≡ keys_of es
keys-set [] i o = refl
keys-set (e ∷ es) zero o = refl
keys-set (e ∷ es) (suc i) o = cc (keys-set es i o)

euis-set : (os : List Own) (i : ℕ) (x y : Own) → slice_get os i ≡ Some x → eui y ≡ eui x → map eui (set os i y) ≡ map eui os
euis-set [] i x y at same = refl
euis-set (o ∷ os) zero x y at same = let this : o ≡ x = cc in ap (λ e. e ∷ map eui os) (same ∙ ap eui (sym this))
euis-set (o ∷ os) (suc i) x y at same = ap (λ es. eui o ∷ es) (euis-set os i x y at same)

pub agree-set : (es : List (DevEui × Own)) (table : List (ℕ × SmallVec ℕ)) (i : ℕ) (x y : Own) → Agree es table → slice_get (values_of es) i ≡ Some x
    → y.device ≡ x.device → y.addr ≡ x.addr → Agree (set_value_at es i y) table
agree-set es table i x y agree at device addr = record {
  euis = keys-set es i y ∙ agree.euis ∙ sym (ap (map eui) (values-set es i y) ∙ euis-set (values_of es) i x y at (ap (λ d. d.eui) device));
  apart = subst (IsDistinct same_device) (sym (keys-set es i y)) agree.apart;
  places = λ a. agree.places a
      ∙ sym (ap (places_from (λ (o : Own). o.addr.0 == a) 0) (values-set es i y)
      ∙ places-set (λ (o : Own). o.addr.0 == a) 0 (values_of es) i x y at (ap (λ (b : DevAddr). b.0 == a) addr));
}

-- a write of a device whose state alone is changed
pub agree-state : (f : DeviceRecord → DeviceRecord) (es : List (DevEui × Own)) (table : List (ℕ × SmallVec ℕ)) (i : ℕ) (x y : Own) → Agree es table → slice_get (values_of es) i ≡ Some x
    → y ≡ with_state f x → Agree (set_value_at es i y) table
agree-state f es table i x y agree at is = agree-set es table i x y agree at (ap (λ (o : Own). o.device) is) (ap (λ (o : Own). o.addr) is)

-- the places at a frame's address are those of the devices that have it
pub addressed-places : (es : List (DevEui × Own)) (table : List (ℕ × SmallVec ℕ)) (frame : List ℕ) (addr : ℕ) → Agree es table → addr ≡ (data_fields frame).addr
    → row_in table addr ≡ places_from (is_addressed frame) 0 (values_of es)
addressed-places es table frame addr agree is = agree.places addr ∙ ap (λ (n : ℕ). places_from (λ (o : Own). o.addr.0 == n) 0 (values_of es)) is
