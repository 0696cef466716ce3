-- What a TX_ACK says came of a downlink (Semtech UDP protocol).
use Rattle.std.specs.Prelude.{ℕ, ◌==◌, ◌&&◌, ◌||◌, Bool, true, List, [], ◌∷◌, bytes_eq, codes, is_some, Option, None, Some, Result, Ok, if◌then◌else◌}
use Rattle.std.specs.Option.{ok_or, option_map_or}
use Rattle.serde_json.specs.Data.{Data}
use Rattle.serde_json.specs.Find.{get, as_str, as_object}
use Rattle.ns_types.specs.Results.{◌>>=◌}
use Rattle.ns_roster.specs.Field.{value_of}
use Rattle.ns_forwarder.specs.declared.outcome.Outcome.{Outcome}
use Rattle.ns_forwarder.specs.declared.outcome.Outcome.TheVariants.{Sent, TooLate, TooEarly, CollisionPacket, CollisionBeacon, TxFreq, TxPower, GpsUnlocked, Other}
use Rattle.ns_forwarder.specs.declared.fault.ForwarderFault.{ForwarderFault}
use Rattle.ns_forwarder.specs.declared.fault.ForwarderFault.TheVariants.{Body}

-- NUL, a line feed, a carriage return or a space
abbrev pub is_blank : ℕ → Bool
is_blank b = (b == 0) || (b == 10) || (b == 13) || (b == 32)

-- nothing but these
abbrev pub are_blank : List ℕ → Bool
are_blank [] = true
are_blank (b ∷ rest) = is_blank b && are_blank rest

-- `error`, by its name
abbrev pub named : List ℕ → Outcome
named name =
    if bytes_eq name (codes "NONE") then Sent
    else if bytes_eq name (codes "TOO_LATE") then TooLate
    else if bytes_eq name (codes "TOO_EARLY") then TooEarly
    else if bytes_eq name (codes "COLLISION_PACKET") then CollisionPacket
    else if bytes_eq name (codes "COLLISION_BEACON") then CollisionBeacon
    else if bytes_eq name (codes "TX_FREQ") then TxFreq
    else if bytes_eq name (codes "TX_POWER") then TxPower
    else if bytes_eq name (codes "GPS_UNLOCKED") then GpsUnlocked
    else Other

-- `txpk_ack`: no error where it has none
abbrev pub of_error : Option Data → Outcome
of_error None = Sent
of_error (Some error) = option_map_or named (as_str error) Other

abbrev pub outcome_of : Data → Outcome
outcome_of ack = if is_some (as_object ack) then of_error (get (codes "error") ack) else Other

abbrev pub of_ack : Option Data → Outcome
of_ack None = Sent
of_ack (Some ack) = outcome_of ack

-- what a body says, or its fault: no error where it is blank or has no `txpk_ack`
abbrev pub tx_ack_of : List ℕ → Result Outcome ForwarderFault
tx_ack_of body =
    if are_blank body then Ok Sent
    else (ok_or (value_of body) Body >>= λ d. ok_or (as_object d) Body >>= λ _. Ok (of_ack (get (codes "txpk_ack") d)))
