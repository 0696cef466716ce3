use Rattle.std.proofs.Common.{◌≡◌, Some, refl, sym}
use Rattle.ns_types.specs.Heard.{best}
use Rattle.ns_views.specs.Frame.{data_fields}
use Rattle.ns_sent.proofs.rx1.acknowledgement.Goals as goal

pub returns : goal.returns
returns c =
    let is : best c.args.copies.now ≡ Some c.in_ok-copy.copy = sym c.in_ok-copy.ensures in
    let addr : c.dev_addr.result.0 ≡ (data_fields c.args.frame.now).addr = rw c.view.ensures at c.dev_addr.ensures in
    rw (is, c.rx1.ensures, c.rx1_offset.ensures.is, c.ack_delay.ensures, c.ack_frame.ensures, addr) refl
