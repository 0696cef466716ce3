use Rattle.std.proofs.Common.{◌≡◌, map, take}
use Rattle.serde_json.specs.View.{view}
use Rattle.ns_forwarder.specs.Push.{push_from}
use Rattle.ns_forwarder.specs.Held.{push_view}
use Rattle.ns_forwarder.specs.Handed.{AreOfBand}
use Rattle.ns_forwarder.proofs.push.read_items.Given as goal

abbrev pub invariant-loop-value : goal.invariant-loop-value
invariant-loop-value l = record {
  read : push_view l.push ≡ push_from (take l.value-index (map view l.values));
  band : AreOfBand l.push.items.items;
}
