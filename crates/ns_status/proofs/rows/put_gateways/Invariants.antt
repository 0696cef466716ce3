use Rattle.std.proofs.Common.{◌≡◌, ◌++◌, map, drop, string_bytes}
use Rattle.ns_status.specs.Rows.{rows_text, gateway_row}
use Rattle.ns_status.proofs.rows.put_gateways.Given as goal

-- the text so far with the rows that are left is the whole
abbrev pub invariant-loop-row : goal.invariant-loop-row
invariant-loop-row l = string_bytes l.text ++ rows_text l.is_first (map (gateway_row l.now_ms) (drop l.row-index l.gateways)) ≡ string_bytes l.initial.text ++ rows_text l.initial.is_first (map (gateway_row l.now_ms) l.gateways)
