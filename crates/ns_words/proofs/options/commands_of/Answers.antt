use Rattle.std.proofs.Common.{refl}
use Rattle.std.proofs.lemmas.List.{take_all}
use Rattle.ns_words.proofs.CommandLemmas.{AreBelow-next}
use Rattle.ns_words.proofs.options.commands_of.Goals as goal

pub loop-row-init : goal.loop-row-init
loop-row-init c = λ app. rw c.new-commands.ensures.items refl

pub loop-row-preserved : goal.loop-row-preserved
loop-row-preserved c = λ app.
    AreBelow-next app c.args.rows.now c.loop-row.row-index _ c.loop-row.commands.items c.push.new.self.items c.in_ok-made.made
    c.loop-row-test.true (c.loop-row.invariant app) c.in_ok-made.ensures c.in_ok-push.ensures.items

pub returns : goal.returns
returns c = λ app. rw (take_all _ c.args.rows.now c.loop-row-test.false) at (c.loop-row.invariant app)
