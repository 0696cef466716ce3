-- The bytes of a Join-Accept (LoRaWAN L2 1.0.4, 6.2.6): 17, or 33 with a CFList.
use Rattle.std.specs.Prelude.{ℕ, ◌==◌, List, length, Option, None, Some, if◌then◌else◌}
use Rattle.ns_calls.specs.declared.accept.JoinAccept.{JoinAccept}
use Rattle.ns_calls.specs.declared.accept.JoinAccept.TheVariants.{Plain, WithChannels}

abbrev pub accept_bytes : JoinAccept → List ℕ
accept_bytes (Plain bytes) = bytes
accept_bytes (WithChannels bytes) = bytes

-- the Join-Accept of these bytes, where there are 17 or 33
abbrev pub accept_of : List ℕ → Option JoinAccept
accept_of bytes =
    if length bytes == 17 then Some (Plain bytes)
    else if length bytes == 33 then Some (WithChannels bytes)
    else None
