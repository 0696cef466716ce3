-- Devices by their DevEUIs.
use Rattle.std.proofs.Common.{◌≡◌, ◌==◌, ◌<◌, ℕ, Bool, cond, refl, sym, true, false, List, [], ◌∷◌, length, get_or, take, map, position, Option, Some, None, option_map, if◌then◌else◌, inl, inr, ap, ◌∙◌, arith}
use Rattle.std.specs.Prelude.{AllPairs}
use Rattle.std.specs.Map.{lookup}
use Rattle.std.proofs.lemmas.Bool.Decides.{nat_tests}
use Rattle.std.proofs.lemmas.Grind.{common_steps}
use Rattle.std.proofs.lemmas.List.{get_or-map, get_or-take, length-map, length-take}
use Rattle.std.proofs.lemmas.List.Sums.{position_or_len_is}
use Rattle.ns_types.specs.declared.identity.DevEui.{DevEui}
use Rattle.ns_calls.proofs.LocalLemmas.{bool_tells}
use Rattle.ns_roster.specs.declared.Device.{Device as roster_device}
use Rattle.ns_roster.specs.Valid.{Differ}
use Rattle.ns_status.specs.declared.devices.Device.{Device}
use Rattle.ns_status.specs.Devices.{not_joined, row_of}

abbrev has : DevEui → DevEui × Option Device → Bool
has eui row = row.0.0 == eui.0

-- a device of a roster is not among those before it
module _ (ds : List roster_device) (n : ℕ) (d : roster_device) (within : n < length ds) where
  abbrev before : List (DevEui × Option Device)
  before = map not_joined (take n ds)

  as-many : length before ≡ n
  as-many = omega (arith, length-map (take n ds) not_joined, length-take n ds)

  new-among : AllPairs Differ ds → position (has (get_or ds n d).eui) before ≡ None
  new-among pairs =
      let end = position_or_len_is (has (get_or ds n d).eui) before n (not_joined d) (omega (arith, as-many)) differs (λ past. absurd (omega (arith, as-many, past))) in
      grind (arith, nat_tests, as-many, end)
    where
      differs : (k : ℕ) → k < n → has (get_or ds n d).eui (get_or before k (not_joined d)) ≡ false
      differs k less =
          let apart : (get_or ds k d).eui.0 ≡ (get_or ds n d).eui.0 → ⊥ = pairs k n d less within in
          let same = get_or-map not_joined (take n ds) k d (not_joined d) (omega (arith, length-take n ds)) ∙ ap not_joined (get_or-take n ds k d less) in
          grind (arith, nat_tests, apart, same)

  lookup-none : (eui : DevEui) (rows : List (DevEui × Option Device)) → position (has eui) rows ≡ None → row_of rows eui ≡ None
  lookup-none eui [] none = refl
  lookup-none eui (row ∷ rows) none = grind (arith, nat_tests, common_steps, lookup-none eui rows)

  pub none-before : AllPairs Differ ds → row_of before (get_or ds n d).eui ≡ None
  none-before pairs = lookup-none (get_or ds n d).eui before (new-among pairs)

module _ (eui q : DevEui) (f : Option Device → Option Device) (old : List (DevEui × Option Device)) where
  -- what is known of a device after a change of what is known of this one
  abbrev changed : Option (Option Device)
  changed = if eui.0 == q.0 then option_map f (row_of old q) else row_of old q

  -- nothing changes where there is no such device
  pub row-unplaced : None ≡ row_of old eui → row_of old q ≡ changed
  row-unplaced none = elim (bool_tells (eui.0 == q.0)) [
    | inl here ↦
        (let same : eui ≡ q = grind (arith, nat_tests, here) in
        let gone : row_of old q ≡ None = ap (row_of old) (sym same) ∙ sym none in
        rw (here, gone) refl)
    | inr other ↦ rw other refl
  ]

  -- a write at the device changes what is known of it alone
  pub row-written : (new : List (DevEui × Option Device)) (row w : Option Device) → Some row ≡ row_of old eui → w ≡ f row → row_of new q ≡ cond (eui.0 == q.0) (Some w) (row_of old q)
      → row_of new q ≡ changed
  row-written new row w at is writes = elim (bool_tells (eui.0 == q.0)) [
    | inl here ↦
        (let same : eui ≡ q = grind (arith, nat_tests, here) in
        rw here (writes ∙ ap (λ b. cond b (Some w) (row_of old q)) here ∙ ap Some is ∙ ap (option_map f) (at ∙ ap (row_of old) same)))
    | inr other ↦ rw other (writes ∙ ap (λ b. cond b (Some w) (row_of old q)) other)
  ]
