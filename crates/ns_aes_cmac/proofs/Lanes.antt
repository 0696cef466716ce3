-- Look-ups, lane by lane.
use Rattle.std.proofs.Common.{◌≡◌, ℕ, suc, ◌+◌, ◌*◌, ◌/◌, ◌<◌, ◌≤◌, true, T, List, [], ◌∷◌, map, length, bit_xor, refl, sym, ap, subst, ◌∙◌, arith, w8, Fits}
use Rattle.std.proofs.lemmas.Simd.{swz_l, SwzOk, SwzOk-from_Each1, Each1-weaker, map-map, zip2_of_maps}
use lib.Lanes.{Each1, zip2}
use Rattle.ns_aes_cmac.specs.Lookups.{look_at, is_place, ArePlaces}
use Rattle.ns_aes_cmac.proofs.Bytes.{all_below, all_below-at}

abbrev pub IsBlock : List ℕ → Type 0
IsBlock v = (length v ≡ 16) × Each1 (Fits w8) v

pub swizzle_ok : (js : List ℕ) → length js ≡ 16 → ArePlaces js → SwzOk w8 16 16 0 js
swizzle_ok js long places = SwzOk-from_Each1 w8 16 1 16 0 js refl (omega (arith, long)) (Each1-weaker (λ j. is_place j ≡ true) (λ j. T (is_place j)) (λ j h. subst T (sym h) tt) js places)

swizzled : (t : List ℕ) (i : ℕ) (js : List ℕ) → i + length js ≤ 16 → swz_l w8 16 t i js ≡ map (look_at t) js
swizzled t i [] h = refl
swizzled t i (j ∷ js) h =
    let e : 16 * (i / 16) + j ≡ j = omega arith in
    rw (e, swizzled t (suc i) js (omega arith)) refl

pub swizzle_is : (t js : List ℕ) → length js ≡ 16 → swz_l w8 16 t 0 js ≡ map (look_at t) js
swizzle_is t js long = swizzled t 0 js (omega (arith, long))

-- a look-up at places that were computed from the bytes of v
pub looked : (t : List ℕ) (g : ℕ → ℕ) (v : List ℕ) {js r : List ℕ} → r ≡ map (look_at t) js → js ≡ map g v → r ≡ map (λ b. look_at t (g b)) v
looked t g v {js} e f = e ∙ ap (map (look_at t)) f ∙ map-map (look_at t) g v

-- the sums of two look-ups
pub looked_both : (t u : List ℕ) (g h : ℕ → ℕ) (v : List ℕ) {js ks r s : List ℕ} → js ≡ map g v → r ≡ map (look_at t) js → ks ≡ map h v → s ≡ map (look_at u) ks
    → zip2 bit_xor r s ≡ map (λ b. bit_xor (look_at t (g b)) (look_at u (h b))) v
looked_both t u g h v ej er ek es = zip2_of_maps bit_xor (λ b. look_at t (g b)) (λ b. look_at u (h b)) v (looked t g v er ej) (looked u h v es ek)

each_place : (g : ℕ → ℕ) (v : List ℕ) → Each1 (Fits w8) v → all_below (λ b. is_place (g b)) 256 ≡ true → ArePlaces (map g v)
each_place g [] fits test = tt
each_place g (x ∷ xs) fits test = (all_below-at (λ b. is_place (g b)) 256 test x fits.0.fits, each_place g xs fits.1 test)

pub places_of : (g : ℕ → ℕ) (v : List ℕ) {js : List ℕ} → Each1 (Fits w8) v → js ≡ map g v → all_below (λ b. is_place (g b)) 256 ≡ true → ArePlaces js
places_of g v fits e test = subst ArePlaces (sym e) (each_place g v fits test)

-- two functions that agree at each byte
pub map_agree : (f g : ℕ → ℕ) (v : List ℕ) → Each1 (Fits w8) v → ((b : ℕ) → b < 256 → f b ≡ g b) → map f v ≡ map g v
map_agree f g [] fits h = refl
map_agree f g (x ∷ xs) fits h = rw (h x fits.0.fits, map_agree f g xs fits.1 h) refl
