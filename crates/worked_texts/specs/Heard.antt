-- What happens at a step, where a datagram is spelled by hex digits.
use Rattle.std.specs.Prelude.{ℕ, List, Option, option_map}
use Rattle.std.specs.Result.{result_ok}
use Rattle.hex.specs.Hex.{decode_of}
use Rattle.ns_acts.specs.declared.step.Act.{Act}
use Rattle.ns_acts.specs.declared.step.Act.TheVariants.{Datagram}

-- the datagram that the digits spell, where they spell bytes
abbrev pub heard : List ℕ → Option Act
heard digits = option_map Datagram (result_ok (decode_of digits))
