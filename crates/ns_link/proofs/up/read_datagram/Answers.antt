use Rattle.std.proofs.Common.{◌≡◌, ◌-◌, ◌≤◌, List, ℕ, length, take, drop, sym, ap, subst, ◌∙◌, arith, rules}
use Rattle.std.proofs.lemmas.List.{take_rest}
use Rattle.ns_types.proofs.ByteLemmas.{AreBytes-slice}
use Rattle.ns_types.specs.declared.heard.Heard.{Heard}
use Rattle.ns_link.specs.Datagram.{IsUpDatagram, lowest_frequency, highest_frequency, heard_of, datagram_of}
use Rattle.ns_link.proofs.UpLayout.{IsSized, IsUpDatagram-sized, datagram_of-sized, datagram_of-datagram, read}
use Rattle.ns_link.proofs.up.read_datagram.Goals as goal

-- the tests that were passed
sized : (c : goal.After-frame-1) → IsSized c.args.bytes.now
sized c =
    let e = c.heard_of-heard.ensures in
    record {
      least = c.if-bytes-lt-HEADER.false;
      version = c.if-bytes-ne-VERSION.false;
      kind = c.if-bytes-ne-UP.false;
      size = omega (arith, c.from.ensures, c.if-bytes-from.false);
      lowest = subst (λ (h : Heard). lowest_frequency ≤ h.freq) e c.if-heard-lt-LOWEST_FREQUENCY.false;
      highest = subst (λ (h : Heard). h.freq ≤ highest_frequency) e c.if-heard-gt-HIGHEST_FREQUENCY.false;
      dr = subst (λ (h : Heard). h.dr ≤ 7) e c.if-heard-gt-HIGHEST_DATA_RATE.false;
    }

-- what is returned is what the bytes hold
same : (c : goal.After-frame-1) → read c.heard_of-heard.result (take (length c.args.bytes.now - 28) (drop 28 c.args.bytes.now)) ≡ datagram_of c.args.bytes.now
same c =
    ap (λ (h : Heard). read h (take (length c.args.bytes.now - 28) (drop 28 c.args.bytes.now))) c.heard_of-heard.ensures
    ∙ ap (read (heard_of c.args.bytes.now)) (take_rest c.args.bytes.now 28)
    ∙ sym (datagram_of-sized c.args.bytes.now (sized c))

pub returns-clause-gives : goal.returns-clause-gives
returns-clause-gives c = same c

pub returns-clause-found : goal.returns-clause-found
returns-clause-found c =
    let bytes = c.args.bytes.now in
    let is = IsUpDatagram-sized bytes (AreBytes-slice bytes (λ i. search rules)) (sized c) in
    subst (λ (frame : List ℕ). IsUpDatagram bytes c.heard_of-heard.result frame) (sym (take_rest bytes 28))
    (subst (λ (h : Heard). IsUpDatagram bytes h (drop 28 bytes)) (sym c.heard_of-heard.ensures) is)

pub returns-clause-only : goal.returns-clause-only
returns-clause-only c heard frame is = same c ∙ datagram_of-datagram c.args.bytes.now heard frame is
