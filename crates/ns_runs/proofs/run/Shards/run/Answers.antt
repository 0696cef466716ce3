use Rattle.std.specs.Arc.{arc_value}
use Rattle.ns_runs.proofs.Whole.{listed-run, listed-greatest}
use Rattle.ns_runs.proofs.run.Shards.run.Goals as goal

pub returns-in-Ok : goal.returns-in-Ok
returns-in-Ok c =
    let net = arc_value c.args.roster in
    let (given, told, all, has, made) = c.in-Ok.ensures.run in
    let run = listed-run net c.args.steps.now c.new-lines.result.rest.now given told c.in-Ok.shards c.new.result.items c.run_over.new.answers.taken.items c.new-lines.ensures all has c.new.ensures.items made in
    record {
      taken = run.all;
      shards = run.shards;
      sixteen = run.sixteen;
      histories = run.histories;
      calls = run.calls;
      nonces_rise = run.nonces_rise;
      counters_rise = run.counters_rise;
      acks_rise = run.acks_rise;
      uplinks = run.uplinks;
      windows_open_once = run.windows_open_once;
      nonces_within = run.nonces_within;
      greatest = listed-greatest net c.args.steps.now c.new-lines.result.rest.now given told c.in-Ok.shards c.new-lines.ensures all has;
      copies = run.copies;
      handed_out_once = run.handed_out_once;
    }
