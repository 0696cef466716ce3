use Rattle.std.proofs.Common.{rules, Some, Ok, Err, ap, sym, ◌∙◌}
use Rattle.serde_json.specs.View.{view}
use Rattle.ns_roster_place.proofs.PlaceLemmas.{fault_from-next}
use Rattle.ns_roster_place.proofs.find.fault_of_devices.Goals as goal

pub returns-in-Err : goal.returns-in-Err
returns-in-Err c =
    ap Some c.in_ok-in_device-in-Err.ensures
    ∙ sym (fault_from-next c.args.version view c.loop-index.devices.items c.args.values.now c.loop-index.index c.index-values-index.result (Err c.in-Err.fault) c.loop-index-test.true c.index-values-index.is (c.in-Err.ensures.gives (search rules)))
    ∙ c.loop-index.invariant.0

pub loop-index-preserved : goal.loop-index-preserved
loop-index-preserved c = (
  sym (fault_from-next c.args.version view c.loop-index.devices.items c.args.values.now c.loop-index.index c.index-values-index.result (Ok c.add_value.new.devices.items) c.loop-index-test.true c.index-values-index.is c.in-Ok.ensures.gives)
      ∙ c.loop-index.invariant.0,
  c.in-Ok.ensures.indexed,
  c.in-Ok.ensures.valid,
)
