-- Windows of one name, and of one uplink.
use Rattle.std.proofs.Common.{◌≡◌, ◌==◌, Bool, true, false, ◌&&◌, refl, sym, ◌∙◌}
use Rattle.std.proofs.lemmas.Bool.{false≢true, and_parts, and_from, eq-eqb, eqb-true, false_from_ne_true}
use Rattle.ns_types.specs.declared.identity.WindowName.{WindowName}
use Rattle.ns_types.specs.Identity.{same_uplink, same_window}

pub both_hold : (a b : Bool) → a ≡ true → b ≡ true → (a && b) ≡ true
both_hold = and_from

pub same_uplink-refl : (w : WindowName) → same_uplink w w ≡ true
same_uplink-refl w = both_hold _ _ (both_hold _ _ (eq-eqb w.eui.0 w.eui.0 refl) (eq-eqb w.session w.session refl)) (eq-eqb w.fcnt w.fcnt refl)

pub same_window-refl : (w : WindowName) → same_window w w ≡ true
same_window-refl w = both_hold _ _ (same_uplink-refl w) (eq-eqb w.round w.round refl)

-- device, session and counter are the same
pub record AreOfOneUplink (v w : WindowName) : Type 0 where
  pub eui : v.eui ≡ w.eui
  pub session : v.session ≡ w.session
  pub fcnt : v.fcnt ≡ w.fcnt

pub same_uplink-eq : (v w : WindowName) → same_uplink v w ≡ true → AreOfOneUplink v w
same_uplink-eq v w is =
    let outer = and_parts ((v.eui.0 == w.eui.0) && (v.session == w.session)) (v.fcnt == w.fcnt) is in
    let inner = and_parts (v.eui.0 == w.eui.0) (v.session == w.session) outer.0 in
    let eui : v.eui.0 ≡ w.eui.0 = eqb-true v.eui.0 w.eui.0 inner.0 in
    record { eui = λ i. record { 0 = eui i }; session = eqb-true v.session w.session inner.1; fcnt = eqb-true v.fcnt w.fcnt outer.1 }

-- windows of one name are of one uplink
pub same_window-uplink : (v w : WindowName) → same_window v w ≡ true → same_uplink v w ≡ true
same_window-uplink v w is = (and_parts (same_uplink v w) (v.round == w.round) is).0

pub same_window-eq : (v w : WindowName) → same_window v w ≡ true → v ≡ w
same_window-eq v w is =
    let parts = and_parts (same_uplink v w) (v.round == w.round) is in
    let uplink = same_uplink-eq v w parts.0 in
    let round = eqb-true v.round w.round parts.1 in
    λ i. record { eui = uplink.eui i; session = uplink.session i; fcnt = uplink.fcnt i; round = round i }

-- whoever is of the uplink of one window is of that of another one of it
pub same_uplink-other : (x v w : WindowName) → same_uplink v w ≡ true → same_uplink x v ≡ same_uplink x w
same_uplink-other x v w is =
    let same = same_uplink-eq v w is in
    λ i. (x.eui.0 == (same.eui i).0) && (x.session == same.session i) && (x.fcnt == same.fcnt i)

pub same_uplink-apart : (v w : WindowName) → same_uplink v w ≡ false → same_uplink w v ≡ false
same_uplink-apart v w apart = false_from_ne_true (same_uplink w v) (λ is. false≢true (sym apart ∙ (same_uplink-other v w v is ∙ same_uplink-refl v)))
