-- The layout of the gateways' datagrams, which is this server's own. Numbers have their highest byte first.
use Rattle.std.specs.Prelude.{◌≡◌, ℕ, ◌+◌, ◌<◌, ◌≤◌, ◌^◌, not, ◌||◌, ◌==◌, nat_lt, List, [], ◌∷◌, ◌++◌, length, take, drop, slice_index, Option, Result, ℤ, FitsSigned}
use Rattle.std.specs.Int.{w16, w32, w64, to_be_bytes, from_be_bytes, cast_signed, cast_unsigned}
use Rattle.ns_types.specs.Cases.{when, first_of}
use Rattle.ns_types.specs.Results.{or_fault}
use Rattle.ns_types.specs.Bytes.{AreBytes}
use Rattle.ns_types.specs.declared.heard.Heard.{Heard}
use Rattle.ns_types.specs.declared.heard.Target.{Target}
use Rattle.ns_link.specs.declared.LinkFault.{LinkFault}
use Rattle.ns_link.specs.declared.LinkFault.TheVariants.{Short, Version, Kind, Length, Frequency, DataRate}

-- the band, in Hz (EU868)
abbrev pub lowest_frequency : ℕ
lowest_frequency = 863000000

abbrev pub highest_frequency : ℕ
highest_frequency = 870000000

-- a signed number as two bytes
abbrev pub two_complement : ℤ → List ℕ
two_complement z = to_be_bytes w16 (cast_unsigned w16 z)

-- the datagram of a frame that a gateway heard
abbrev pub up_datagram : Heard → List ℕ → List ℕ
up_datagram h frame =
    0x01 ∷ 0x01 ∷ to_be_bytes w64 h.gateway.0 ++ to_be_bytes w64 h.moment ++ to_be_bytes w32 h.freq
    ++ (h.dr ∷ two_complement h.rssi ++ two_complement h.snr ++ (length frame ∷ frame))

-- the bytes before a frame of n bytes that a gateway is to send
abbrev pub down_header : Target → ℕ → List ℕ
down_header t n =
    0x01 ∷ 0x81 ∷ to_be_bytes w64 t.gateway.0 ++ to_be_bytes w64 t.moment ++ to_be_bytes w32 t.freq
    ++ (t.dr ∷ 0 ∷ 0 ∷ 0 ∷ 0 ∷ n ∷ [])

-- the datagram of a frame that a gateway is to send
abbrev pub down_datagram : Target → List ℕ → List ℕ
down_datagram t frame = down_header t (length frame) ++ frame

-- the bytes are the datagram of this frame, heard so
pub record IsUpDatagram (bytes : List ℕ) (h : Heard) (frame : List ℕ) : Type 0 where
  pub parts : bytes ≡ up_datagram h frame
  pub gateway : h.gateway.0 < 2 ^ 64
  pub moment : h.moment < 2 ^ 64
  pub lowest : lowest_frequency ≤ h.freq
  pub highest : h.freq ≤ highest_frequency
  pub dr : h.dr ≤ 7
  pub rssi : FitsSigned w16 h.rssi
  pub snr : FitsSigned w16 h.snr
  pub frame_len : length frame ≤ 255
  pub frame_bytes : AreBytes frame

-- how a datagram says that its frame was heard
abbrev pub heard_of : List ℕ → Heard
heard_of bytes = record {
  gateway = record { 0 = from_be_bytes w64 (take 8 (drop 2 bytes)) };
  moment = from_be_bytes w64 (take 8 (drop 10 bytes));
  freq = from_be_bytes w32 (take 4 (drop 18 bytes));
  dr = slice_index bytes 22;
  rssi = cast_signed w16 (from_be_bytes w16 (take 2 (drop 23 bytes)));
  snr = cast_signed w16 (from_be_bytes w16 (take 2 (drop 25 bytes)));
}

-- the first fault of bytes that are no uplink's datagram, in the order of the numbers G1 to G6
abbrev pub link_fault : List ℕ → Option LinkFault
link_fault bytes = first_of (
    when (nat_lt (length bytes) 28) Short
    ∷ when (not (slice_index bytes 0 == 1)) Version
    ∷ when (not (slice_index bytes 1 == 1)) Kind
    ∷ when (not (length bytes == 28 + slice_index bytes 27)) Length
    ∷ when (nat_lt (heard_of bytes).freq lowest_frequency || nat_lt highest_frequency (heard_of bytes).freq) Frequency
    ∷ when (nat_lt 7 (heard_of bytes).dr) DataRate
    ∷ [])

-- what a datagram holds, or its first fault
abbrev pub datagram_of : List ℕ → Result (Heard × List ℕ) LinkFault
datagram_of bytes = or_fault (link_fault bytes) (heard_of bytes, drop 28 bytes)
