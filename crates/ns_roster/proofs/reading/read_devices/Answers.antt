use Rattle.std.proofs.Common.{arith, sym, ◌∙◌, Ok, Err}
use Rattle.std.proofs.lemmas.Result.{err_from_is_err_and}
use Rattle.serde_json.specs.View.{view}
use Rattle.ns_roster.proofs.TextLemmas.{devices_from-next}
use Rattle.ns_roster.proofs.reading.read_devices.Goals as goal

pub returns-in_err-add_value-clause-gives : goal.returns-in_err-add_value-clause-gives
returns-in_err-add_value-clause-gives c =
    let p = err_from_is_err_and c.from_residual.result c.from_residual.ensures.1 in
    rw (p.1, p.2) (λ fault. sym c.loop-value.invariant.0
    ∙ devices_from-next c.args.version view c.loop-value.devices.items c.args.values.now c.loop-value.value-index c.value-item.result (Err c.in_err-add_value.field-0.0) c.loop-value-test.true c.value-item.is (c.in_err-add_value.ensures.gives fault))

pub loop-value-preserved : goal.loop-value-preserved
loop-value-preserved c = (
  sym (devices_from-next c.args.version view c.loop-value.devices.items c.args.values.now c.loop-value.value-index c.value-item.result (Ok c.add_value.new.devices.items) c.loop-value-test.true c.value-item.is c.in_ok-add_value.ensures.gives)
      ∙ c.loop-value.invariant.0,
  c.in_ok-add_value.ensures.indexed,
  c.in_ok-add_value.ensures.valid,
  omega (arith, c.in_ok-add_value.ensures.len),
)
