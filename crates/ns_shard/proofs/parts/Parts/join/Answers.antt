use Rattle.ns_shard.proofs.PartsAfter.{join-taken}
use Rattle.ns_shard.proofs.parts.Parts.join.Goals as goal

pub returns-clause-taken : goal.returns-clause-taken
returns-clause-taken c =
    let room = c.in_ok-room.ensures in
    let told = c.join.ensures in
    join-taken c.args.self.now c.requires.agree c.room.new.self room.made room.entries room.reserved c.args.ticket.now c.args.heard.now c.requires.own room.ok c.join.result told.reply told.opened told.devices
