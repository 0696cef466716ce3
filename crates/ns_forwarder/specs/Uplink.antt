-- The datagram of a frame that a forwarder handed on.
use Rattle.std.specs.Prelude.{ℕ, ℤ, ◌<◌, ◌^◌, ◌∷◌, ◌++◌, [], List, length, FitsSigned}
use Rattle.std.specs.Int.{w16, w32, w64, to_be_bytes}
use Rattle.std.specs.Prelude.{◌≤◌}
use Rattle.ns_types.specs.declared.identity.GatewayId.{GatewayId}
use Rattle.ns_types.specs.declared.heard.Heard.{Heard}
use Rattle.ns_link.specs.Datagram.{lowest_frequency, highest_frequency, two_complement}
use Rattle.ns_forwarder.specs.Rxpk.{Item}

-- an item of EU868, whose frame fits in a datagram
pub record IsOfBand (i : Item) : Type 0 where
  pub lowest : lowest_frequency ≤ i.freq
  pub highest : i.freq ≤ highest_frequency
  pub dr : i.dr ≤ 7
  pub len : length i.frame ≤ 255

-- each number fits its type
pub record HasRanges (h : Heard) : Type 0 where
  pub gateway : h.gateway.0 < 2 ^ 64
  pub moment : h.moment < 2 ^ 64
  pub rssi : FitsSigned w16 h.rssi
  pub snr : FitsSigned w16 h.snr

abbrev pub heard : ℕ → ℕ → ℕ → ℕ → ℤ → ℤ → Heard
heard gateway moment freq dr rssi snr = record { gateway = record { 0 = gateway }; moment = moment; freq = freq; dr = dr; rssi = rssi; snr = snr }

-- how a gateway heard the frame of an item, at a moment by its clock
abbrev pub heard_of : Item → GatewayId → ℕ → Heard
heard_of i gateway moment = record { gateway = gateway; moment = moment; freq = i.freq; dr = i.dr; rssi = i.rssi; snr = i.snr }

-- the bytes before a frame of n bytes that was heard
abbrev pub up_header : Heard → ℕ → List ℕ
up_header h n =
    0x01 ∷ 0x01 ∷ to_be_bytes w64 h.gateway.0 ++ to_be_bytes w64 h.moment ++ to_be_bytes w32 h.freq
    ++ (h.dr ∷ two_complement h.rssi ++ two_complement h.snr ++ (n ∷ []))
