use Rattle.std.proofs.Common.{refl}
use Rattle.std.proofs.lemmas.List.{take_all}
use Rattle.ns_words.proofs.CommandLemmas.{AreAdded-next}
use Rattle.ns_words.proofs.options.args_of.Goals as goal

pub loop-argument-init : goal.loop-argument-init
loop-argument-init c = λ app. rw c.new-args.ensures.items refl

pub loop-argument-preserved : goal.loop-argument-preserved
loop-argument-preserved c = λ app.
    AreAdded-next app c.args.arguments.now c.loop-argument.argument-index _ c.loop-argument.args.items c.push.new.self.items c.arg_of.result
    c.loop-argument-test.true (c.loop-argument.invariant app) c.arg_of.ensures c.in_ok-push.ensures.items

pub returns : goal.returns
returns c = λ app. rw (take_all _ c.args.arguments.now c.loop-argument-test.false) at (c.loop-argument.invariant app)
