use Rattle.std.proofs.Common.{◌≡◌, List, ◌∷◌, length, Option, refl, sym, ap, ◌∙◌, arith}
use Rattle.std.specs.Map.Iter.{deref}
use Rattle.ns_windows.specs.declared.window.Window.{Window}
use Rattle.ns_windows.specs.Places.{open_of}
use Rattle.ns_windows.proofs.iter.OpenWindowsIterator.next.Goals as goal
use Rattle.ns_windows.proofs.iter.OpenWindowsIterator.next.Goals.{After-as_ref}

pub places-init : goal.places-init
places-init c = refl

first : (c : After-as_ref) → c.args.self.now ≡ deref c.as_ref.result ∷ open_of c.next.new.self
first c =
    let left : List (Option Window) = c.next.new.self in
    sym c.self.view_is
    ∙ (sym c.places.invariant
    ∙ (ap open_of (c.in-Some.ensures.steps ∙ ap (λ (o : Option Window). o ∷ left) c.in-Some-place.is)
    ∙ ap (λ (w : Window). w ∷ open_of left) (sym c.as_ref.ensures)))

pub returns-in-Some-place-clause-steps : goal.returns-in-Some-place-clause-steps
returns-in-Some-place-clause-steps c = first c

pub returns-in-Some-place-clause-goes : goal.returns-in-Some-place-clause-goes
returns-in-Some-place-clause-goes c = (let fewer = ap length (first c) in record { on = λ _. (tt, tt, omega (arith, fewer)); keeps = tt; rests = λ _. tt })

pub places-smaller : goal.places-smaller
places-smaller c = (let fewer = ap length c.in-Some.ensures.steps in omega (arith, fewer))

pub places-preserved : goal.places-preserved
places-preserved c =
    let left : List (Option Window) = c.next.new.self in
    sym (ap open_of (c.in-Some.ensures.steps ∙ ap (λ (o : Option Window). o ∷ left) c.in_default-place.is)) ∙ c.places.invariant

pub returns-clause-steps : goal.returns-clause-steps
returns-clause-steps c =
    let none = c.in_default.ensures.steps in
    (sym c.self.view_is ∙ (sym c.places.invariant ∙ ap open_of none.0), ap open_of none.1)
