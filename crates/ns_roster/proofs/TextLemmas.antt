-- Lemmas on the definitions of a roster's text.
use Rattle.std.proofs.Common.{arith, ◌≡◌, ℕ, ◌+◌, ◌<◌, List, [], ◌∷◌, ◌++◌, Bool, true, false, cond, Option, Some, None, length, get_or, drop, map, refl, sym, ◌∙◌, ap, inl, inr, is_some, eqb}
use Rattle.std.specs.Str.{is_utf8, IsUtf8}
use Rattle.std.proofs.lemmas.Str.{IsUtf8-from_is_utf8, is_utf8-from_IsUtf8}
use Rattle.std.proofs.lemmas.Bool.{cases_Bool, eqb-true}
use Rattle.std.proofs.lemmas.List.{at_drop_more, get_or-map, length-map}
use Rattle.std.proofs.lemmas.List.Folds.{find-append}
use Rattle.std.specs.Prelude.{Result}
use Rattle.std.specs.Option.{option_or}
use Rattle.serde_json.specs.Data.{Data}
use Rattle.serde_json.specs.Read.{read}
use Rattle.serde_json.specs.View.{items_of}
use Rattle.ns_types.specs.Results.{◌>>=◌}
use Rattle.ns_roster.specs.declared.Device.{Device}
use Rattle.ns_roster.specs.declared.fault.RosterFault.{RosterFault}
use Rattle.ns_roster.specs.Field.{value_of}
use Rattle.ns_roster.specs.Text.{device_with, with_value, devices_from, items_list}

pub value_of-some : (bytes : List ℕ) (d : Data) → IsUtf8 bytes → read bytes ≡ Some d → value_of bytes ≡ Some d
value_of-some bytes d text found = rw (is_utf8-from_IsUtf8 bytes text, found) refl

pub value_of-none : (bytes : List ℕ) → (IsUtf8 bytes → read bytes ≡ None) → value_of bytes ≡ None
value_of-none bytes none = elim (cases_Bool (is_utf8 bytes)) [ inl t ↦ rw (t, none (IsUtf8-from_is_utf8 bytes t)) refl | inr f ↦ rw f refl ]

at_key : (b : Bool) (x : Device) (o : Option Device) → (b ≡ true → is_some o ≡ false) → cond b (Some x) o ≡ option_or o (cond b (Some x) None)
at_key b x o h = grind arith

-- a device at the end of the list, and at its DevEUI in the map
pub device_with-push : (devices : List Device) (x : Device) (old new : ℕ → Option Device)
    → is_some (old x.eui.0) ≡ false → ((q : ℕ) → old q ≡ device_with q devices)
    → ((q : ℕ) → new q ≡ cond (eqb x.eui.0 q) (Some x) (old q))
    → (q : ℕ) → new q ≡ device_with q (devices ++ x ∷ [])
device_with-push devices x old new none indexed updates q =
    let absent : eqb x.eui.0 q ≡ true → is_some (device_with q devices) ≡ false
    = λ same. rw (← indexed q, ← eqb-true x.eui.0 q same) none in
    updates q ∙ ap (λ o. cond (eqb x.eui.0 q) (Some x) o) (indexed q) ∙ at_key (eqb x.eui.0 q) x (device_with q devices) absent
    ∙ sym (find-append (λ d. eqb d.eui.0 q) devices (x ∷ []))

-- what the list from one value on gives, where that value gives a device, and where it gives a fault
pub devices_from-next : {X : Type 0} (version : ℕ) (f : X → Data) (devices : List Device) (vs : List X) (i : ℕ) (v : X) (r : Result (List Device) RosterFault)
    → i < length vs → v ≡ get_or vs i v → with_value version devices (f v) ≡ r
    → devices_from version devices (drop i (map f vs)) ≡ (r >>= λ more. devices_from version more (drop (i + 1) (map f vs)))
devices_from-next version f devices vs i v r within item step =
    let here : get_or (map f vs) i (f v) ≡ f v = get_or-map f vs i v (f v) within ∙ ap f (sym item) in
    let inside : i < length (map f vs) = rw (length-map vs f) within in
    rw (at_drop_more (devices_from version devices) (map f vs) i (f v) inside, here, step) refl

-- a list's values, of a list of values
pub items_list_of_items : (ds : List Data) → items_list (items_of ds) ≡ ds
items_list_of_items [] = refl
items_list_of_items (d ∷ ds) = ap (λ es. d ∷ es) (items_list_of_items ds)
