use Rattle.std.proofs.Common.{inr}
use Rattle.std.specs.Arc.{arc_value}
use Rattle.ns_replay.specs.Output.{output}
use Rattle.ns_replay.proofs.ClosingLemmas.{replay-output}
use Rattle.ns_replay.proofs.FrontLemmas.{front-of}
use Rattle.ns_replay.proofs.run.replay.Goals as goal

pub returns-in-Ok-write_text-clause-front : goal.returns-in-Ok-write_text-clause-front
returns-in-Ok-write_text-clause-front g c =
    inr (front-of (g.R.Source.left c.args.reader.now) (output c.args.uplinks c.args.closing (arc_value c.args.roster)) _ _ c.in-Ok.text.items (replay-output (arc_value c.args.roster) c.args.uplinks c.args.closing c.in-Ok.text.items (g.R.Source.left c.args.reader.now) c.in-Ok.ensures.lines) (rw c.as_slice.ensures.value at c.write_text.ensures.front))

pub returns-clause-front : goal.returns-clause-front
returns-clause-front g c =
    inr (front-of (g.R.Source.left c.args.reader.now) (output c.args.uplinks c.args.closing (arc_value c.args.roster)) _ _ c.in-Ok.text.items (replay-output (arc_value c.args.roster) c.args.uplinks c.args.closing c.in-Ok.text.items (g.R.Source.left c.args.reader.now) c.in-Ok.ensures.lines) (rw c.as_slice.ensures.value at c.write_text.ensures.front))
