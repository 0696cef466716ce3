use Rattle.std.proofs.Common.{◌+◌, ◌++◌, ℕ, List, drop, map, false, string_bytes, ap, ◌∙◌}
use Rattle.ns_status.specs.Rows.{rows_text, gateway_row}
use Rattle.ns_status.proofs.StepLemmas.{rows_more}
use Rattle.ns_status.proofs.rows.put_gateways.Goals as goal

pub loop-row-preserved : goal.loop-row-preserved
loop-row-preserved c =
    ap (λ (t : List ℕ). t ++ rows_text false (map (gateway_row c.args.now_ms) (drop (c.loop-row.row-index + 1) c.args.gateways.now))) c.in_ok-put_gateway.ensures
    ∙ (rows_more (gateway_row c.args.now_ms) (string_bytes c.loop-row.text) c.loop-row.is_first c.args.gateways.now c.loop-row.row-index _ c.loop-row-test.true
    ∙ c.loop-row.invariant)
