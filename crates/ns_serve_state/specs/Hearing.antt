-- Which gateway workers hear packet forwarders.
use Rattle.std.specs.Prelude.{ℕ, ◌==◌, ◌%◌, Bool, true, false}

-- whether the one at a place does, where this server's own datagrams are heard or not, and forwarders are or not
abbrev pub hears_forwarders : Bool → Bool → ℕ → Bool
hears_forwarders own false place = false
hears_forwarders false true place = true
hears_forwarders true true place = place % 2 == 1
