-- Lemmas on the field of a device that a fault is about.
use Rattle.std.proofs.Common.{◌≡◌, ℕ, List, Bool, true, false, not, ◌==◌, ◌&&◌, Option, Some, None, Ok, Err, refl, sym, ◌∙◌, eqb-true, subst}
use Rattle.std.specs.Prelude.{Result, if◌then◌else◌, nat_le, codes}
use Rattle.std.specs.Option.{ok_or}
use Rattle.std.proofs.lemmas.Bool.{le-leb}
use Rattle.serde_json.specs.Data.{Data}
use Rattle.ns_types.specs.Results.{◌>>=◌}
use Rattle.ns_types.specs.declared.identity.DevNonce.{DevNonce}
use Rattle.ns_roster.specs.declared.Device.{Device}
use Rattle.ns_roster.specs.declared.fault.RosterFault.{RosterFault}
use Rattle.ns_roster.specs.declared.fault.RosterFault.TheVariants as fault
use Rattle.ns_roster.specs.Field.{whole_at, is_missing}
use Rattle.ns_roster.specs.Text.{eui_at, nonce_from, last_nonce_of, device_of, device_from}
use Rattle.ns_roster.specs.Valid.{max_slot, max_nonce}
use Rattle.ns_roster_place.specs.Device.{wrong_field}
use Rattle.ns_roster_place.specs.Wrong.{HasNoneUpTo, IsWrongField}

-- no number up to the greatest stands where there is none, and where there is one above it
none_of_none : (most : ℕ) (key : List ℕ) (d : Data) → whole_at key d ≡ None → HasNoneUpTo most key d
none_of_none most key d none n le found = let bad : None ≡ Some n = sym none ∙ found in cc

none_of_above : (most k : ℕ) (key : List ℕ) (d : Data) → whole_at key d ≡ Some k → nat_le k most ≡ false → HasNoneUpTo most key d
none_of_above most k key d there above n le found =
    let same : Some k ≡ Some n = sym there ∙ found in
    let within : nat_le n most ≡ true = le-leb n most le in
    cc

-- what is refused for its last nonce
RefusesNonce : ℕ → Data → RosterFault → Type 0
RefusesNonce version d f = (f ≡ fault.Field) × (version ≡ 2) × (is_missing (codes "last_nonce") d ≡ false) × HasNoneUpTo max_nonce (codes "last_nonce") d

nonce_refused : (version : ℕ) (d : Data) (f : RosterFault) → last_nonce_of version d ≡ Err f → RefusesNonce version d f
unfolding RefusesNonce
nonce_refused version d f h = by_version (version == 2) refl h
  where
    by_size : (k : ℕ) (b : Bool) → nat_le k max_nonce ≡ b → whole_at (codes "last_nonce") d ≡ Some k → version ≡ 2 → is_missing (codes "last_nonce") d ≡ false
        → if◌then◌else◌ {A = Result (Option DevNonce) RosterFault} b (Ok (Some (record { 0 = k }))) (Err fault.Field) ≡ Err f → RefusesNonce version d f
    by_size k true s w v m h = cc
    by_size k false s w v m h = (cc, v, m, none_of_above max_nonce k (codes "last_nonce") d w s)

    by_number : (o : Option ℕ) → whole_at (codes "last_nonce") d ≡ o → version ≡ 2 → is_missing (codes "last_nonce") d ≡ false
        → (ok_or o fault.Field >>= nonce_from) ≡ Err f → RefusesNonce version d f
    by_number None w v m h = (cc, v, m, none_of_none max_nonce (codes "last_nonce") d w)
    by_number (Some k) w v m h = by_size k (nat_le k max_nonce) refl w v m h

    by_missing : (b : Bool) → is_missing (codes "last_nonce") d ≡ b → version ≡ 2
        → (if not b then (ok_or (whole_at (codes "last_nonce") d) fault.Field >>= nonce_from) else Ok None) ≡ Err f → RefusesNonce version d f
    by_missing true m v h = cc
    by_missing false m v h = by_number (whole_at (codes "last_nonce") d) refl v m h

    by_version : (b : Bool) → (version == 2) ≡ b
        → (if b && not (is_missing (codes "last_nonce") d) then (ok_or (whole_at (codes "last_nonce") d) fault.Field >>= nonce_from) else Ok None) ≡ Err f → RefusesNonce version d f
    by_version false e h = cc
    by_version true e h = by_missing (is_missing (codes "last_nonce") d) refl (eqb-true version 2 e) h

pub named_device : (version : ℕ) (d : Data) (f : RosterFault) → device_of version d ≡ Err f → IsWrongField version d (wrong_field d f)
unfolding device_of RefusesNonce
named_device version d f h = by_eui (eui_at (codes "dev_eui") d) refl h
  where
    by_slot : (e j s : ℕ) (n : Option DevNonce) (b : Bool) → nat_le s max_slot ≡ b → whole_at (codes "slot") d ≡ Some s
        → if◌then◌else◌ {A = Result Device RosterFault} b (Ok (record { eui = record { 0 = e }; join_eui = record { 0 = j }; slot = s; last_nonce = n })) (Err fault.Slot) ≡ Err f
        → IsWrongField version d (wrong_field d f)
    by_slot e j s n true size w h = cc
    by_slot e j s n false size w h =
        let is : fault.Slot ≡ f = cc in
        subst (λ g. IsWrongField version d (wrong_field d g)) is (none_of_above max_slot s (codes "slot") d w size)

    by_nonce : (e j s : ℕ) (r : Result (Option DevNonce) RosterFault) → last_nonce_of version d ≡ r
        → eui_at (codes "dev_eui") d ≡ Some e → eui_at (codes "join_eui") d ≡ Some j → whole_at (codes "slot") d ≡ Some s
        → (r >>= device_from e j s) ≡ Err f → IsWrongField version d (wrong_field d f)
    by_nonce e j s (Ok n) is a b w h = by_slot e j s n (nat_le s max_slot) refl w h
    by_nonce e j s (Err g) is a b w h =
        let p = nonce_refused version d g is in
        let same : fault.Field ≡ f = cc in
        subst (λ x. IsWrongField version d (wrong_field d x)) same (rw (a, b, w) (p.1, p.2, p.3))

    by_number : (e j : ℕ) (o : Option ℕ) → whole_at (codes "slot") d ≡ o
        → eui_at (codes "dev_eui") d ≡ Some e → eui_at (codes "join_eui") d ≡ Some j
        → (ok_or o fault.Field >>= λ slot. last_nonce_of version d >>= device_from e j slot) ≡ Err f → IsWrongField version d (wrong_field d f)
    by_number e j None w a b h =
        let same : fault.Field ≡ f = cc in
        subst (λ x. IsWrongField version d (wrong_field d x)) same (rw (a, b, w) (none_of_none max_slot (codes "slot") d w))
    by_number e j (Some s) w a b h = by_nonce e j s (last_nonce_of version d) refl a b w h

    by_join_eui : (e : ℕ) (o : Option ℕ) → eui_at (codes "join_eui") d ≡ o → eui_at (codes "dev_eui") d ≡ Some e
        → (ok_or o fault.Field >>= λ join_eui. ok_or (whole_at (codes "slot") d) fault.Field >>= λ slot. last_nonce_of version d >>= device_from e join_eui slot) ≡ Err f
        → IsWrongField version d (wrong_field d f)
    by_join_eui e None b a h =
        let same : fault.Field ≡ f = cc in
        subst (λ x. IsWrongField version d (wrong_field d x)) same (rw (a, b) b)
    by_join_eui e (Some j) b a h = by_number e j (whole_at (codes "slot") d) refl a b h

    by_eui : (o : Option ℕ) → eui_at (codes "dev_eui") d ≡ o
        → (ok_or o fault.Field >>= λ eui. ok_or (eui_at (codes "join_eui") d) fault.Field >>= λ join_eui. ok_or (whole_at (codes "slot") d) fault.Field >>= λ slot. last_nonce_of version d >>= device_from eui join_eui slot) ≡ Err f
        → IsWrongField version d (wrong_field d f)
    by_eui None a h =
        let same : fault.Field ≡ f = cc in
        subst (λ x. IsWrongField version d (wrong_field d x)) same (rw a a)
    by_eui (Some e) a h = by_join_eui e (eui_at (codes "join_eui") d) refl a h
