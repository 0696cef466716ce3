-- Results that have a fault.
use Rattle.std.specs.Prelude.{◌≡◌, ◌≢◌, Bool, true, false, ⊤, Option, None, Some, Result, Ok, Err}

-- the second step, where the first gave a value
infixl 10 ◌>>=◌
abbrev pub ◌>>=◌ : {A B E : Type 0} → Result A E → (A → Result B E) → Result B E
(Ok x) >>= f = f x
(Err e) >>= f = Err e

-- the fault, unless the test holds
abbrev pub unless : {E : Type 0} → E → Bool → Result ⊤ E
unless fault true = Ok tt
unless fault false = Err fault

-- a value, or the fault where there is one
abbrev pub or_fault : {X E : Type 0} → Option E → X → Result X E
or_fault None x = Ok x
or_fault (Some fault) x = Err fault

-- What a call returned, seen by view, is what the definition gives, unless memory ran out, which the first fault says.
abbrev pub Gives : {X Y E : Type 0} → E → (X → Y) → Result X E → Result Y E → Type 0
Gives no_memory view (Ok x) found = found ≡ Ok (view x)
Gives no_memory view (Err e) found = e ≢ no_memory → found ≡ Err e

-- What a call that takes no memory returned, seen by view, is what the definition gives.
abbrev pub GivesExactly : {X Y E : Type 0} → (X → Y) → Result X E → Result Y E → Type 0
GivesExactly view (Ok x) found = found ≡ Ok (view x)
GivesExactly view (Err e) found = found ≡ Err e
