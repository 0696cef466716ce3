use Rattle.std.proofs.Common.{◌≡◌, ◌++◌, map, drop, string_bytes}
use Rattle.ns_status.specs.Rows.{rows_text, device_row}
use Rattle.ns_status.proofs.rows.put_devices.Given as goal

-- the text so far with the rows that are left is the whole
abbrev pub invariant-loop-row : goal.invariant-loop-row
invariant-loop-row l = string_bytes l.text ++ rows_text l.is_first (map device_row (drop l.row-index l.devices)) ≡ string_bytes l.initial.text ++ rows_text l.initial.is_first (map device_row l.devices)
