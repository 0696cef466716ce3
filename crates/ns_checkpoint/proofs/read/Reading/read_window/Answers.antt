use Rattle.ns_checkpoint.proofs.ReadLines.{window-read}
use Rattle.ns_checkpoint.proofs.read.Reading.read_window.Goals as goal

pub returns : goal.returns
returns g c = window-read _ _ _ _ _ _ c.in_ok-window.window c.in_ok-window-2.field-0 c.in_ok-window.ensures c.in_ok-window-2.ensures
