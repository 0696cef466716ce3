-- Greatest numbers.
use Rattle.std.proofs.Common.{◌≡◌, ℕ, Option, None, Some, refl, ap, arith}
use Rattle.ns_secure.specs.Counter.{Exceeds}
use Rattle.ns_calls.specs.Queries.{greater}

pub greater-none : (a : Option ℕ) → greater a None ≡ a
greater-none None = refl
greater-none (Some a) = refl

pub exceeds_greater : (greatest : Option ℕ) (n : ℕ) → Exceeds greatest n → greater greatest (Some n) ≡ Some n
exceeds_greater None n above = refl
exceeds_greater (Some g) n above = ap Some (omega (arith, above))
