-- Devices of a roster that are added in its order.
use Rattle.std.proofs.Common.{◌≡◌, ◌==◌, ◌≢◌, ℕ, ◌+◌, suc, ◌<◌, cond, List, [], ◌∷◌, ◌++◌, length, take, filter, map, get_or, None, refl, sym, ap, ◌∙◌, arith, append-nil}
use Rattle.std.specs.Prelude.{AllPairs}
use Rattle.std.proofs.lemmas.Bool.Decides.{nat_tests}
use Rattle.std.proofs.lemmas.List.{get_or-take, length-take, map-append}
use Rattle.std.proofs.lemmas.List.Elements.{filter_more}
use Rattle.ns_types.specs.declared.identity.DevEui.{DevEui}
use Rattle.ns_types.specs.Identity.{shard_of}
use Rattle.ns_roster.specs.declared.Device.{Device}
use Rattle.ns_roster.specs.Network.{Network}
use Rattle.ns_roster.specs.Valid.{Differ}
use Rattle.ns_devices.specs.declared.own.Own.{Own}
use Rattle.ns_devices.specs.Devices.{joinless, own_of}

-- the devices of the shard among the first of the roster, none of which has joined
abbrev pub added : Network → ℕ → ℕ → List Own
added net index n = map (joinless net) (filter (λ d. shard_of d.eui == index) (take n net.devices))

-- none of some devices has an EUI that differs from all of theirs
none_has : (net : Network) (index : ℕ) (eui : DevEui) (ds : List Device) (x : Device) → ((k : ℕ) → k < length ds → (get_or ds k x).eui.0 ≢ eui.0)
    → own_of eui (map (joinless net) (filter (λ d. shard_of d.eui == index) ds)) ≡ None
none_has net index eui [] x differ = refl
none_has net index eui (d ∷ ds) x differ =
    let apart : d.eui.0 ≢ eui.0 = differ 0 (omega arith) in
    let later = none_has net index eui ds x (λ k lt. differ (suc k) (omega (arith, lt))) in
    grind (arith, nat_tests, later)

module _ (net : Network) (index n : ℕ) (e : Device) (within : n < length net.devices) where
  abbrev here : Device
  here = get_or net.devices n e

  -- a device of the roster is new after those before it
  pub none-added : AllPairs Differ net.devices → own_of (get_or net.devices n e).eui (added net index n) ≡ None
  none-added pairs = none_has net index here.eui (take n net.devices) e differs
    where
      differs : (k : ℕ) → k < length (take n net.devices) → (get_or (take n net.devices) k e).eui.0 ≢ here.eui.0
      differs k less =
          let before : k < n = omega (arith, less, length-take n net.devices) in
          let same : get_or (take n net.devices) k e ≡ get_or net.devices k e = get_or-take n net.devices k e before in
          λ (equal : (get_or (take n net.devices) k e).eui.0 ≡ here.eui.0). pairs k n e before within (ap (λ (d : Device). d.eui.0) (sym same) ∙ equal)

  one_more : added net index (n + 1) ≡ map (joinless net) (filter (λ d. shard_of d.eui == index) (take n net.devices) ++ cond (shard_of here.eui == index) (here ∷ []) [])
  one_more = ap (map (joinless net)) (filter_more (λ (d : Device). shard_of d.eui == index) net.devices n e within)

  -- with a device of the shard there is one more
  pub added-own : shard_of (get_or net.devices n e).eui ≡ index → added net index (n + 1) ≡ added net index n ++ joinless net (get_or net.devices n e) ∷ []
  added-own own = grind (arith, nat_tests, one_more, map-append)

  -- with another one there is not
  pub added-other : shard_of (get_or net.devices n e).eui ≢ index → added net index (n + 1) ≡ added net index n
  added-other other = grind (arith, nat_tests, one_more, append-nil)
