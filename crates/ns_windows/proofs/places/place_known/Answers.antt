use Rattle.std.proofs.Common.{◌≡◌, ℕ, Option, None, Some, IfNone, slice_get, is_some, true, false, sym, subst, ◌∙◌}
use Rattle.std.specs.Map.{lookup, values_of}
use Rattle.std.proofs.lemmas.Bool.{true≢false}
use Rattle.ns_types.specs.Identity.{same_window}
use Rattle.ns_calls.proofs.Lists.{find-none}
use Rattle.ns_windows.specs.Windows.{is_named}
use Rattle.ns_windows.specs.Places.{opened, window_at, passes_at}
use Rattle.ns_windows.proofs.Placed.{names_eq, at-some, unknown-none, empty-none}
use Rattle.ns_windows.proofs.places.place_known.Goals as goal

if_none : {P : Type 0} (o : Option ℕ) → P → IfNone o P
if_none None holds = holds
if_none (Some place) holds = tt

unfound : {X : Type 0} (o : Option X) → false ≡ is_some o → o ≡ None
unfound None is = λ i. None
unfound (Some x) is = absurd (true≢false (sym is))

pub returns-in_err-place-clause-none : goal.returns-in_err-place-clause-none
returns-in_err-place-clause-none c =
    let name = c.args.name.now in
    let es = c.args.names.now.entries in
    if_none c.from_residual.result (find-none (is_named name) (opened es) (unknown-none name es c.requires.own (unfound (lookup (same_window name) es) (subst (λ eq. false ≡ is_some (lookup (eq name) es)) names_eq c.in_err-place.ensures.found))))

is_somewhere : {X : Type 0} (o : Option X) → true ≡ is_some o → (x : X) × (o ≡ Some x)
is_somewhere None is = absurd (true≢false is)
is_somewhere (Some x) is = (x, λ i. Some x)

pub returns-then-not-is_at-clause-none : goal.returns-then-not-is_at-clause-none
returns-then-not-is_at-clause-none c =
    let name = c.args.name.now in
    let es = c.args.names.now.entries in
    let there = is_somewhere (lookup (same_window name) es) (subst (λ eq. true ≡ is_some (lookup (eq name) es)) names_eq c.in_ok-place.ensures.found) in
    let at : window_at (values_of es) c.in_ok-place.place ≡ there.0 = at-some (values_of es) c.in_ok-place.place there.0 (subst (λ eq. slice_get (values_of es) c.in_ok-place.place ≡ lookup (eq name) es) names_eq c.in_ok-place.ensures.value ∙ there.1) in
    let fails : passes_at (is_named name) c.in_ok-place.place (values_of es) ≡ false = sym c.is_at.ensures ∙ c.if-not-is_at.true in
    find-none (is_named name) (opened es) (empty-none name es there.0 c.requires.own c.requires.apart there.1 (rw at at fails))
