use Rattle.std.proofs.Common.{◌≡◌, ℕ, ◌+◌, List, length, take, drop, ap, sym, ◌∙◌, arith}
use Rattle.std.proofs.lemmas.List.{take_at}
use Rattle.ns_types.specs.declared.heard.Target.{Target}
use Rattle.ns_link.specs.Datagram.{down_datagram}
use Rattle.ns_link.proofs.down.write_down.Goals as goal

length-down : (t : Target) (frame : List ℕ) → length (down_datagram t frame) ≡ 28 + length frame
length-down t frame = omega arith

pub returns-clause-written : goal.returns-clause-written
returns-clause-written c =
    let target = c.args.target.now in
    let frame = c.args.frame.now in
    let size = c.in_ok-size.size in
    ap (take size) c.in_ok-size.ensures.written
    ∙ take_at (down_datagram target frame) (drop (28 + length frame) c.args.buf.now) size (length-down target frame ∙ sym c.in_ok-size.ensures.size)
