-- How uplinks are written.
use Rattle.std.specs.Prelude.{ℕ, List, Option}
use Rattle.ns_calls.specs.declared.answer.Uplink.{Uplink}
use Rattle.ns_lines.specs.Text.{up_text}
use Rattle.ns_output.specs.declared.output.Output.{Output}
use Rattle.ns_output.specs.declared.output.Output.TheVariants.{Lines, Json}
use Rattle.ns_output.specs.declared.times.Times.{Times}
use Rattle.ns_events.specs.Uplink.{uplink_json}

-- the line of an uplink: as `lines` it has no times
abbrev pub line_of : Output → Option Times → Uplink → List ℕ
line_of Lines times u = up_text u
line_of Json times u = uplink_json times u
