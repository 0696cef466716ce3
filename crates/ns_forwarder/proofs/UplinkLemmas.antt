-- The datagram of an item's frame.
use Rattle.std.proofs.Common.{◌≡◌, ℕ, List, subst}
use Rattle.ns_types.specs.Bytes.{AreBytes}
use Rattle.ns_types.specs.declared.identity.GatewayId.{GatewayId}
use Rattle.ns_types.specs.declared.heard.Heard.{Heard}
use Rattle.ns_link.specs.Datagram.{IsUpDatagram, up_datagram}
use Rattle.ns_forwarder.specs.Rxpk.{Item}
use Rattle.ns_forwarder.specs.Uplink.{IsOfBand, HasRanges, heard_of}

made : (bytes : List ℕ) (i : Item) (gateway : GatewayId) (moment : ℕ) → HasRanges (heard_of i gateway moment) → IsOfBand i → AreBytes i.frame
    → bytes ≡ up_datagram (heard_of i gateway moment) i.frame → IsUpDatagram bytes (heard_of i gateway moment) i.frame
made bytes i gateway moment fits band frame parts = record {
  parts = parts;
  gateway = fits.gateway;
  moment = fits.moment;
  lowest = band.lowest;
  highest = band.highest;
  dr = band.dr;
  rssi = fits.rssi;
  snr = fits.snr;
  frame_len = band.len;
  frame_bytes = frame;
}

pub IsUpDatagram-item : (bytes : List ℕ) (i : Item) (gateway : GatewayId) (moment : ℕ) (h : Heard) → h ≡ heard_of i gateway moment → HasRanges h → IsOfBand i → AreBytes i.frame
    → bytes ≡ up_datagram h i.frame → IsUpDatagram bytes (heard_of i gateway moment) i.frame
IsUpDatagram-item bytes i gateway moment h is fits band frame parts =
    made bytes i gateway moment (subst HasRanges is fits) band frame (subst (λ (x : Heard). bytes ≡ up_datagram x i.frame) is parts)
