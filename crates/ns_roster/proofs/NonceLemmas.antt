-- The greatest nonces of devices, one after the other.
use Rattle.std.proofs.Common.{◌≡◌, ℕ, ◌+◌, ◌<◌, List, [], ◌∷◌, ◌++◌, map, take, length, get_or, Option, option_map, ap, ◌∙◌, arith}
use Rattle.std.proofs.lemmas.List.{map-append, take_more}
use Rattle.ns_types.specs.declared.identity.DevEui.{DevEui}
use Rattle.ns_types.specs.declared.identity.DevNonce.{DevNonce}
use Rattle.ns_roster.specs.declared.Device.{Device}
use Rattle.ns_roster.specs.Closing.{nonce_by}

same_nonce : (o : Option DevNonce) → o ≡ option_map (λ (n : ℕ). let x : DevNonce = record { 0 = n } in x) (option_map (λ (n : DevNonce). n.0) o)
same_nonce o = grind arith

-- one nonce more
pub nonces-next : (greatest : DevEui → Option ℕ) (ds : List Device) (i : ℕ) (d : Device) (ns : List (Option DevNonce)) (o : Option DevNonce) → i < length ds → ns ≡ map (nonce_by greatest) (take i ds)
    → option_map (λ (n : DevNonce). n.0) o ≡ greatest (get_or ds i d).eui → ns ++ o ∷ [] ≡ map (nonce_by greatest) (take (i + 1) ds)
nonces-next greatest ds i d ns o within are told =
    let next : o ≡ nonce_by greatest (get_or ds i d) = same_nonce o ∙ ap (option_map (λ (n : ℕ). let x : DevNonce = record { 0 = n } in x)) told in
    rw (take_more ds i d within) (simp (map-append, are, next))
