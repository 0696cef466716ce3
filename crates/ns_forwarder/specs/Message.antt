-- The messages of packet forwarders (Semtech UDP protocol, versions 1 and 2): a head of 12 bytes and a body.
use Rattle.std.specs.Prelude.{◌≡◌, ℕ, ◌^◌, ◌<◌, ◌≤◌, ◌⊎◌, not, ◌||◌, ◌==◌, Bool, nat_lt, List, [], ◌∷◌, ◌++◌, length, take, drop, slice_index, Option, None, Some, Result, Ok, Err, if◌then◌else◌}
use Rattle.std.specs.Int.{w64, to_be_bytes, from_be_bytes}
use Rattle.std.specs.Option.{ok_or}
use Rattle.ns_types.specs.Results.{◌>>=◌}
use Rattle.ns_types.specs.declared.identity.GatewayId.{GatewayId}
use Rattle.ns_forwarder.specs.declared.head.Kind.{Kind}
use Rattle.ns_forwarder.specs.declared.head.Kind.TheVariants.{PushData, PullData, TxAck}
use Rattle.ns_forwarder.specs.declared.head.Head.{Head}
use Rattle.ns_forwarder.specs.declared.fault.ForwarderFault.{ForwarderFault}
use Rattle.ns_forwarder.specs.declared.fault.ForwarderFault.TheVariants.{TooLong, Short, Version}
use Rattle.ns_forwarder.specs.declared.fault.ForwarderFault.TheVariants as fault

-- the longest message that is looked at, in bytes
abbrev pub most_bytes : ℕ
most_bytes = 16384

-- the identifier of a message that a forwarder sends
abbrev pub identifier : Kind → ℕ
identifier PushData = 0
identifier PullData = 2
identifier TxAck = 5

-- what an identifier stands for
abbrev pub kind_of : ℕ → Option Kind
kind_of n = if n == 0 then Some PushData else (if n == 2 then Some PullData else (if n == 5 then Some TxAck else None))

-- the versions of the protocol
abbrev pub is_version : ℕ → Bool
is_version version = (version == 1) || (version == 2)

-- the bytes before the body: the version, two bytes to repeat, the identifier, and the gateway's EUI, highest byte first
abbrev pub head_bytes : Head → List ℕ
head_bytes h = h.version ∷ h.token ++ (identifier h.kind ∷ to_be_bytes w64 h.gateway.0)

-- the bytes are the message of this head and this body
pub record IsMessage (bytes : List ℕ) (h : Head) (body : List ℕ) : Type 0 where
  pub parts : bytes ≡ head_bytes h ++ body
  pub version : (h.version ≡ 1) ⊎ (h.version ≡ 2)
  pub token : length h.token ≡ 2
  pub gateway : h.gateway.0 < 2 ^ 64
  pub len : length bytes ≤ most_bytes

-- the gateway's EUI in a message
abbrev pub gateway_of : List ℕ → GatewayId
gateway_of bytes = record { 0 = from_be_bytes w64 (take 8 (drop 4 bytes)) }

-- the head of a message of a kind
abbrev pub head_of : List ℕ → Kind → Head
head_of bytes kind = record {
  version = slice_index bytes 0;
  token = slice_index bytes 1 ∷ slice_index bytes 2 ∷ [];
  kind = kind;
  gateway = gateway_of bytes;
}

-- the head and the body of a message, or its first fault
abbrev pub message_of : List ℕ → Result (Head × List ℕ) ForwarderFault
message_of bytes =
    if nat_lt most_bytes (length bytes) then Err TooLong
    else if nat_lt (length bytes) 12 then Err Short
    else if not (is_version (slice_index bytes 0)) then Err Version
    else (ok_or (kind_of (slice_index bytes 3)) fault.Kind >>= λ kind. Ok (head_of bytes kind, drop 12 bytes))

-- the message that acknowledges: PUSH_ACK (1) or PULL_ACK (4), with the version and the two bytes of what it acknowledges
abbrev pub ack_by : Head → Kind → Option (List ℕ)
ack_by h PushData = Some (h.version ∷ h.token ++ (1 ∷ []))
ack_by h PullData = Some (h.version ∷ h.token ++ (4 ∷ []))
ack_by h TxAck = None

abbrev pub ack_of : Head → Option (List ℕ)
ack_of h = ack_by h h.kind
