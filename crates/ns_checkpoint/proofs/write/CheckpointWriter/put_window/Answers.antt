use Rattle.ns_checkpoint.proofs.WrittenLines.{window-written}
use Rattle.ns_checkpoint.proofs.write.CheckpointWriter.put_window.Goals as goal

pub returns : goal.returns
returns g c = window-written _ _ _ _ _ _ _ c.args.window.now _ c.window_line.ensures c.as_slice.ensures.value c.in_ok-put.ensures c.in_ok-put_copies.ensures
