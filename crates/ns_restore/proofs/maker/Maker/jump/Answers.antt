use Rattle.ns_shard.specs.Rounds.{round_calls}
use Rattle.ns_restore.proofs.Stays.{jump_stays}
use Rattle.ns_restore.proofs.maker.Maker.jump.Goals as goal

pub returns : goal.returns
returns c =
    jump_stays c.jump.new.self c.args.self.now.shard (round_calls c.args.rounds c.args.frame.now c.args.heard.now c.in_ok-jump.field-0) c.in_ok-jump.ensures.rounds
