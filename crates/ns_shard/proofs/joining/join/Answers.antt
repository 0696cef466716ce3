use Rattle.std.proofs.Common.{refl, ◌∙◌}
use Rattle.ns_shard.proofs.Standing.{decision-some, decision-none}
use Rattle.ns_shard.proofs.joining.join.Goals as goal

pub returns-in-Some : goal.returns-in-Some
returns-in-Some c = record {
  reply = c.join_event.ensures.reply ∙ decision-some c.args.devices.now c.args.ticket.now c.in-Some.decision c.in-Some.ensures.decision;
  opened = c.join_event.ensures.opened c.args.heard.now;
  devices = c.join.ensures.devices;
}

pub returns-in-None : goal.returns-in-None
returns-in-None c = record {
  reply = decision-none c.args.devices.now c.args.ticket.now c.in-None.ensures.decision;
  opened = refl;
  devices = c.join.ensures.devices;
}
