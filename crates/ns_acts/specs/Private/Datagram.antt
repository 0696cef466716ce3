-- The bytes that a datagram holds.
use Rattle.std.specs.Prelude.{ℕ, List}
use Rattle.ns_acts.specs.declared.step.Stored.{Stored}
use Rattle.ns_acts.specs.declared.step.Stored.TheVariants.{Short, Long}

abbrev pub stored_bytes : Stored → List ℕ
stored_bytes (Short bytes) = bytes
stored_bytes (Long bytes) = bytes.items
