use Rattle.std.proofs.Common.{◌≡◌, ℕ, zero, suc, Option, Some, None, get_or, replicate, refl}
use Rattle.ns_front.specs.declared.noted.Noted.{Noted}
use Rattle.ns_front.specs.Noted.{place_of}
use Rattle.ns_front.proofs.noted.NotedPeers.new.Goals as goal

abbrev nothing : Option Noted
nothing = None

none_there : (n i : ℕ) → get_or (replicate n nothing) i None ≡ None
none_there zero i = refl
none_there (suc n) zero = refl
none_there (suc n) (suc i) = none_there n i

never : (i : ℕ) (noted : Noted) → get_or (replicate 64 nothing) i None ≡ Some noted → ⊥
never i noted h = let no : get_or (replicate 64 nothing) i None ≡ None = none_there 64 i in cc

pub returns : goal.returns
returns c = record { none = λ gateway addr changes h. never (place_of gateway) (record { gateway = gateway; addr = addr; changes = changes }) h }
