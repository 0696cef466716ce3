use Rattle.std.proofs.Common.{[], subst}
use Rattle.ns_shard.specs.State.{Keeps}
use Rattle.ns_runs.proofs.RunHistories.{entries-after, histories-legal, histories-calls, histories-nonces, histories-counters, histories-acks, histories-windows, histories-within, all-hand_out}
use Rattle.ns_runs.proofs.KeptSteps.{greatest-kept}
use Rattle.ns_runs.proofs.RunTaken.{taken-copies, taken-once}
use Rattle.ns_runs.proofs.run.Shards.end.Goals as goal

pub returns : goal.returns
returns c = record {
  histories = λ net steps whole after. histories-legal net steps whole after;
  calls = λ net steps whole after. histories-calls net steps whole after;
  nonces_rise = λ net steps whole after. histories-nonces net steps whole after;
  counters_rise = λ net steps whole after. histories-counters net steps whole after;
  acks_rise = λ net steps whole after. histories-acks net steps whole after;
  windows_open_once = λ net steps whole after. histories-windows net steps whole after;
  nonces_within = λ net steps whole after. histories-within net steps whole after;
  kept = λ net steps whole after are shard w s at_w at_s. subst (λ h. Keeps h s) (entries-after net steps whole after shard w at_w) (are.each shard s at_s).keeps;
  greatest = λ net steps are. greatest-kept net steps c.args.self.now are;
  uplinks = λ net steps. all-hand_out net [] steps;
  copies = λ net steps whole after. taken-copies net steps whole after;
  handed_out_once = taken-once;
}
