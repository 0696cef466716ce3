use Rattle.std.specs.Arc.{arc_value}
use Rattle.ns_sessions.proofs.Uplinks.{uplinks_agree}
use Rattle.ns_shard.proofs.UplinkSteps.{can_open}
use Rattle.ns_shard.proofs.PartsAfter.{uplink-taken, uplink-refused}
use Rattle.ns_shard.proofs.parts.Parts.uplink.Goals as goal

pub uplink-requires : goal.uplink-requires
uplink-requires c =
    let p = c.args.self.now in
    let h = c.requires.agree.history in
    record { «open» = can_open (arc_value p.roster) p.index h p.devices p.windows c.args.frame.now c.args.heard.now c.requires.agree.agrees (uplinks_agree (arc_value p.roster) h) c.requires.own }

pub returns-clause-taken : goal.returns-clause-taken
returns-clause-taken c =
    let room = c.in_ok-room.ensures in
    uplink-taken c.args.self.now c.requires.agree c.room.new.self room.made room.entries room.reserved c.args.frame.now c.args.heard.now c.requires.own room.ok c.uplink.new.devices c.uplink.new.windows c.uplink.result c.uplink.ensures

pub returns-clause-err : goal.returns-clause-err
returns-clause-err c =
    let room = c.in_ok-room.ensures in
    uplink-refused c.args.self.now c.requires.agree c.room.new.self room.made room.entries room.reserved c.args.frame.now c.args.heard.now _ c.uplink.new.devices c.uplink.new.windows c.uplink.result c.uplink.ensures
