use Rattle.std.proofs.Common.{refl, subst, inl, inr}
use Rattle.ns_joinclient.specs.Place.{EndsAt}
use Rattle.ns_joinclient.proofs.PlaceLemmas.{code_status, reason_status}
use Rattle.ns_joinclient.proofs.place.Place.after_return.Goals as goal

pub returns-in-Code : goal.returns-in-Code
returns-in-Code c = λ text at. elim c.in-Code.is [
  | inl e ↦ (text, code_status text (subst (λ p. EndsAt p text) e at), refl)
  | inr e ↦ (text, reason_status text (subst (λ p. EndsAt p text) e at), refl)
]
