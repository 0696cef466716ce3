-- Bytes that pass the tests are a datagram, and a datagram passes them.
use Rattle.std.proofs.Common.{◌≡◌, ℕ, ◌+◌, ◌<◌, ◌≤◌, List, length, get_or, drop, Option, None, Result, Ok, refl, sym, ap, subst, ◌∙◌, arith, ℤ, ◌^◌}
use Rattle.std.proofs.lemmas.List.{length-drop}
use Rattle.std.proofs.lemmas.Bool.Decides.{nat_tests}
use Rattle.std.proofs.lemmas.Nat.{from_be_bytes-to_be_bytes_4, from_be_bytes-to_be_bytes_8}
use Rattle.ns_types.specs.Results.{or_fault}
use Rattle.ns_types.proofs.ResultLemmas.{or_fault-ok}
use Rattle.ns_types.proofs.ByteLemmas.{each_byte, AreBytes-drop}
use Rattle.ns_types.specs.Bytes.{AreBytes}
use Rattle.ns_types.specs.declared.heard.Heard.{Heard}
use Rattle.ns_link.specs.declared.LinkFault.{LinkFault}
use Rattle.ns_link.specs.Datagram.{IsUpDatagram, up_datagram, heard_of, link_fault, datagram_of, lowest_frequency, highest_frequency}
use Rattle.ns_link.specs.Laws.{ReadsExactly}
use Rattle.ns_link.proofs.Parts.{below_8, number_of_8, number_of_4, number_of_2, signed_fits, signed_again, parts-are, same_parts}

-- what the tests of a datagram say
pub record IsSized (bytes : List ℕ) : Type 0 where
  pub least : 28 ≤ length bytes
  pub version : get_or bytes 0 0 ≡ 1
  pub kind : get_or bytes 1 0 ≡ 1
  pub size : length bytes ≡ 28 + get_or bytes 27 0
  pub lowest : lowest_frequency ≤ (heard_of bytes).freq
  pub highest : (heard_of bytes).freq ≤ highest_frequency
  pub dr : (heard_of bytes).dr ≤ 7

pub no_fault : (bytes : List ℕ) → IsSized bytes → link_fault bytes ≡ None
no_fault bytes h =
    let least = h.least in
    let version = h.version in
    let kind = h.kind in
    let size = h.size in
    let lowest = h.lowest in
    let highest = h.highest in
    let dr = h.dr in
    grind (arith, nat_tests)

sized : (bytes : List ℕ) → link_fault bytes ≡ None → IsSized bytes
sized bytes h = record {
  least = grind (arith, nat_tests);
  version = grind (arith, nat_tests);
  kind = grind (arith, nat_tests);
  size = grind (arith, nat_tests);
  lowest = grind (arith, nat_tests);
  highest = grind (arith, nat_tests);
  dr = grind (arith, nat_tests);
}

-- bytes that pass the tests are the datagram of what they hold
pub IsUpDatagram-sized : (bytes : List ℕ) → AreBytes bytes → IsSized bytes → IsUpDatagram bytes (heard_of bytes) (drop 28 bytes)
IsUpDatagram-sized bytes b h =
    let least = h.least in
    let size = h.size in
    let len : get_or bytes 27 0 ≡ length (drop 28 bytes) = omega (arith, length-drop 28 bytes) in
    let last : get_or bytes 27 0 < 256 = each_byte bytes b 27 in
    record {
      parts = parts-are bytes least ∙ same_parts (get_or bytes 22 0) (drop 28 bytes) h.version h.kind (number_of_8 bytes 2 b (omega arith)) (number_of_8 bytes 10 b (omega arith)) (number_of_4 bytes 18 b (omega arith)) (number_of_2 bytes 23 b (omega arith)) (number_of_2 bytes 25 b (omega arith)) len;
      gateway = below_8 bytes 2 b;
      moment = below_8 bytes 10 b;
      lowest = h.lowest;
      highest = h.highest;
      dr = h.dr;
      rssi = signed_fits bytes 23 b;
      snr = signed_fits bytes 25 b;
      frame_len = omega arith;
      frame_bytes = AreBytes-drop bytes 28 b;
    }

-- not `abbrev`, so that `cc` sees an application and no record
heard : ℕ → ℕ → ℕ → ℕ → ℤ → ℤ → Heard
heard gateway moment freq dr rssi snr = record { gateway = record { 0 = gateway }; moment = moment; freq = freq; dr = dr; rssi = rssi; snr = snr }

heard-same : {g g' m m' f f' d d' : ℕ} {r r' s s' : ℤ} → g ≡ g' → m ≡ m' → f ≡ f' → d ≡ d' → r ≡ r' → s ≡ s' → heard g m f d r s ≡ heard g' m' f' d' r' s'
heard-same e_g e_m e_f e_d e_r e_s = cc

same_heard : (c d : Heard) → c.gateway.0 ≡ d.gateway.0 → c.moment ≡ d.moment → c.freq ≡ d.freq → c.dr ≡ d.dr → c.rssi ≡ d.rssi → c.snr ≡ d.snr → c ≡ d
unfolding heard
same_heard c d e_g e_m e_f e_d e_r e_s = heard-same e_g e_m e_f e_d e_r e_s

-- what a datagram holds, read off it again
pub heard_of-datagram : (bytes : List ℕ) (h : Heard) (frame : List ℕ) → IsUpDatagram bytes h frame → heard_of bytes ≡ h
heard_of-datagram bytes h frame is =
    let freq : h.freq < 2 ^ 32 = omega (arith, is.highest) in
    ap heard_of is.parts
    ∙ same_heard (heard_of (up_datagram h frame)) h (from_be_bytes-to_be_bytes_8 h.gateway.0 is.gateway) (from_be_bytes-to_be_bytes_8 h.moment is.moment) (from_be_bytes-to_be_bytes_4 h.freq freq) refl (signed_again h.rssi is.rssi) (signed_again h.snr is.snr)

pub frame-datagram : (bytes : List ℕ) (h : Heard) (frame : List ℕ) → IsUpDatagram bytes h frame → drop 28 bytes ≡ frame
frame-datagram bytes h frame is = ap (drop 28) is.parts

-- a datagram passes the tests
pub IsSized-datagram : (bytes : List ℕ) (h : Heard) (frame : List ℕ) → IsUpDatagram bytes h frame → IsSized bytes
IsSized-datagram bytes h frame is =
    let e = heard_of-datagram bytes h frame is in
    record {
      least = rw is.parts (omega arith);
      version = ap (λ (b : List ℕ). get_or b 0 0) is.parts;
      kind = ap (λ (b : List ℕ). get_or b 1 0) is.parts;
      size = subst (λ (b : List ℕ). length b ≡ 28 + get_or b 27 0) (sym is.parts) (omega arith);
      lowest = subst (λ (x : Heard). lowest_frequency ≤ x.freq) (sym e) is.lowest;
      highest = subst (λ (x : Heard). x.freq ≤ highest_frequency) (sym e) is.highest;
      dr = subst (λ (x : Heard). x.dr ≤ 7) (sym e) is.dr;
    }

pub datagram_of-sized : (bytes : List ℕ) → IsSized bytes → datagram_of bytes ≡ Ok (heard_of bytes, drop 28 bytes)
datagram_of-sized bytes h = ap (λ (fault : Option LinkFault). or_fault fault (heard_of bytes, drop 28 bytes)) (no_fault bytes h)

abbrev pub read : Heard → List ℕ → Result (Heard × List ℕ) LinkFault
read h frame = Ok (h, frame)

-- a datagram is read
pub datagram_of-datagram : (bytes : List ℕ) (h : Heard) (frame : List ℕ) → IsUpDatagram bytes h frame → datagram_of bytes ≡ Ok (h, frame)
datagram_of-datagram bytes h frame is =
    datagram_of-sized bytes (IsSized-datagram bytes h frame is)
    ∙ ap (λ (x : Heard). read x (drop 28 bytes)) (heard_of-datagram bytes h frame is)
    ∙ ap (read h) (frame-datagram bytes h frame is)

-- what is read is a datagram
datagram_of-read : (bytes : List ℕ) (h : Heard) (frame : List ℕ) → AreBytes bytes → datagram_of bytes ≡ Ok (h, frame) → IsUpDatagram bytes h frame
datagram_of-read bytes h frame b e =
    let (none, is) = or_fault-ok (link_fault bytes) (heard_of bytes, drop 28 bytes) (h, frame) e in
    subst (λ (x : Heard × List ℕ). IsUpDatagram bytes x.0 x.1) is (IsUpDatagram-sized bytes b (sized bytes none))

pub reads-exactly : ReadsExactly
reads-exactly bytes h frame b = (datagram_of-read bytes h frame b, datagram_of-datagram bytes h frame)
