-- What a source of datagrams has given.
use Rattle.std.specs.Prelude.{ℕ, ◌≡◌, ◌≤◌, List, [], ◌∷◌, take, Option, Some, IfSome}
use Rattle.ns_outside.specs.declared.traits.Received.{Received}
use Rattle.ns_outside.specs.declared.traits.Received.TheVariants.{Got, Idle, End, Failed}
use Rattle.ns_outside.specs.Given.{Given, with_jobs, with_end, with_failure}

-- what is told after an answer, with the buffer as it is then
abbrev pub after_received : Given (List ℕ) → Received → List ℕ → Given (List ℕ)
after_received g (Got n) buf = with_jobs g (take n buf ∷ [])
after_received g Idle buf = g
after_received g End buf = with_end g
after_received g Failed buf = with_failure g

-- a datagram fits the buffer
abbrev pub FitsBuffer : Received → Type 0
FitsBuffer (Got n) = n ≤ 512
FitsBuffer Idle = Unit {0}
FitsBuffer End = Unit {0}
FitsBuffer Failed = Unit {0}

-- what is told grows by an answer
abbrev pub TakesDatagram : Option (Given (List ℕ)) → Option (Given (List ℕ)) → Received → List ℕ → Type 0
TakesDatagram old new received buf = IfSome old (λ g. new ≡ Some (after_received g received buf))
