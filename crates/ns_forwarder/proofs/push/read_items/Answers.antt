use Rattle.std.proofs.Common.{rules}
use Rattle.serde_json.specs.View.{view}
use Rattle.ns_forwarder.specs.Held.{push_view}
use Rattle.ns_forwarder.proofs.PushLemmas.{push_from-next}
use Rattle.ns_forwarder.proofs.push.read_items.Goals as goal

pub loop-value-preserved : goal.loop-value-preserved
loop-value-preserved c = record {
  read = push_from-next view (push_view c.loop-value.push) (push_view c.put.new.push) c.args.values.now c.loop-value.value-index c.value-item.result
      c.loop-value-test.true c.value-item.is c.loop-value.invariant.read c.in_ok-put.ensures.put;
  band = search rules;
}
