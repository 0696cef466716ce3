use Rattle.ns_checkpoint.specs.Text.{window_lines}
use Rattle.ns_checkpoint.proofs.ReadLines.{read-element}
use Rattle.ns_checkpoint.proofs.read.Reading.read_windows.Goals as goal

pub windows-preserved : goal.windows-preserved
windows-preserved g c = read-element window_lines _ _ _ _ _ _ _ _ _ _ c.windows.invariant c.in_ok-begins_with.ensures c.in_ok-window.ensures c.in_ok-append.ensures
