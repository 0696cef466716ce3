use Rattle.std.proofs.Common.{◌≡◌, List, ℕ, subst}
use Rattle.std.proofs.lemmas.Result.{IfOk-weaker}
use Rattle.ns_types.specs.Bytes.{AreBytes}
use Rattle.ns_link.specs.Datagram.{IsUpDatagram, up_datagram}
use Rattle.ns_link.proofs.UpLayout.{datagram_of-datagram}
use Rattle.ns_forwarder.specs.Uplink.{heard_of}
use Rattle.ns_forwarder.specs.Held.{item_view}
use Rattle.ns_forwarder.proofs.UplinkLemmas.{IsUpDatagram-item}
use Rattle.ns_forwarder.proofs.item.Item.datagram.Goals as goal

-- what was written is the frame's datagram
made : (c : goal.After-write) (bytes : List ℕ) → (bytes ≡ up_datagram c.heard.result c.as_slice.result.now) × AreBytes c.as_slice.result.now
    → IsUpDatagram bytes (heard_of (item_view c.args.self.now) c.args.gateway c.args.moment) c.args.self.now.frame.items
made c bytes written =
    let same = subst (λ (f : List ℕ). (bytes ≡ up_datagram c.heard.result f) × AreBytes f) c.as_slice.ensures.value written in
    IsUpDatagram-item bytes (item_view c.args.self.now) c.args.gateway c.args.moment c.heard.result c.heard.ensures.is c.heard.ensures.fits c.requires same.1 same.0

pub returns-clause-is : goal.returns-clause-is
returns-clause-is c = IfOk-weaker c.write.result _ _ (λ v written. made c v.items written) c.write.ensures

pub returns-clause-reads_back : goal.returns-clause-reads_back
returns-clause-reads_back c = IfOk-weaker c.write.result _ _ (λ v written. datagram_of-datagram v.items _ _ (made c v.items written)) c.write.ensures
