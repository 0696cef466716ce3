-- Laws of the definitions.
use Rattle.std.specs.Prelude.{◌≡◌, ℕ, suc, ℤ, pos, negsuc, false, ◌+◌, ◌*◌, ◌%◌, ◌^◌, ◌<◌, ◌≤◌, ◌↔◌, List, Some, Ok, codes}
use Rattle.std.specs.List.{All}
use Rattle.std.specs.Float.{Float, binary64}
use Rattle.std.specs.Float.Ieee.{round}
use Rattle.serde_json.specs.Data.{Data, Num, number}
use Rattle.serde_json.specs.Find.{get, to_float}
use Rattle.ns_link.specs.Datagram.{lowest_frequency, highest_frequency}
use Rattle.ns_forwarder.specs.declared.head.Head.{Head}
use Rattle.ns_forwarder.specs.declared.clock.Reading.{Reading}
use Rattle.ns_forwarder.specs.Message.{IsMessage, message_of}
use Rattle.ns_forwarder.specs.Clock.{expected, moment_from}
use Rattle.ns_forwarder.specs.Rxpk.{hertz_of}

-- bytes are read as a head and a body exactly where they are the message of these
abbrev pub MessagesExactly : Type 0
MessagesExactly = (bytes : List ℕ) (h : Head) (body : List ℕ) → All (λ b. b < 256) bytes → (message_of bytes ≡ Ok (h, body)) ↔ IsMessage bytes h body

-- a count of 64 bits that is less than half a wrap from where it must be is read off its 32 bits
abbrev pub ClocksFollow : Type 0
ClocksFollow = (latest : Reading) (now count : ℕ) → count < 2 ^ 64 → count < expected latest now + 2 ^ 31 → expected latest now ≤ count + 2 ^ 31
    → moment_from (Some latest) (count % 2 ^ 32) now ≡ count

-- the binary64 that is nearest to digits * 10 ^ exponent, which is what the reader of JSON gives
abbrev pub nearest_to_decimal : ℕ → ℤ → Float
nearest_to_decimal digits (pos e) = round binary64 false (digits * 10 ^ e) 1
nearest_to_decimal digits (negsuc e) = round binary64 false digits (10 ^ suc e)

-- digits * 10 ^ exponent MHz are this number of Hz
abbrev pub IsMegahertz : ℕ → ℤ → ℕ → Type 0
IsMegahertz digits (pos e) freq = digits * 10 ^ e * 1000000 ≡ freq
IsMegahertz digits (negsuc e) freq = digits * 1000000 ≡ freq * 10 ^ suc e

-- a frequency of EU868 in whole Hz, written in MHz with any decimal digits and exponent, is read without an error
abbrev pub HertzExact : Type 0
HertzExact = (d : Data) (m : Num) (digits : ℕ) (exponent : ℤ) (freq : ℕ) → get (codes "freq") d ≡ Some (number m)
    → to_float m ≡ nearest_to_decimal digits exponent → IsMegahertz digits exponent freq
    → lowest_frequency ≤ freq → freq ≤ highest_frequency → hertz_of d ≡ Some freq
