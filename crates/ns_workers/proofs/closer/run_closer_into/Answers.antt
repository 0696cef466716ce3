use Rattle.std.proofs.Common.{arith}
use Rattle.ns_workers.proofs.Closings.{closes_within}
use Rattle.ns_workers.proofs.closer.run_closer_into.Goals as goal

pub returns : goal.returns
returns g c =
    let ends = c.close_all-fault.ensures in
    let all = closes_within _ _ _ _ _ _ _ _ _ _ _ _ c.truncate.ensures.items ends.closes in
    record {
      jobs = all.closes;
      same = ends.same;
      answered = all.does.answered;
      told = all.does.told;
      counted = all.does.counted;
      down = all.does.down;
      text = all.does.text;
      front = all.does.front;
      sound = ends.sound;
      failed = ends.failed;
      first = λ few. absurd (omega (arith, few, c.truncate.ensures.capacity, ends.room));
    }
