use Rattle.std.proofs.Common.{◌<◌, length, rules, refl, sym, subst}
use Rattle.std.proofs.lemmas.Option.{slice_get_read}
use Rattle.ns_runs.specs.KeptSteps.{AreKeptAfter}
use Rattle.ns_runs.proofs.KeptSteps.{kept-set}
use Rattle.ns_runs.proofs.run.Shards.trim_one.Goals as goal

pub returns-in-Some : goal.returns-in-Some
returns-in-Some c = λ net steps are.
    let shards = c.self.inside.list.items in
    let place = c.from-place.result in
    let old = c.in-Some.shard.now in
    let within : place < length shards = search rules in
    kept-set net steps shards place old c.trim_if_due.new.shard (subst (AreKeptAfter net steps) (sym c.self.view_is) are) (slice_get_read shards (length shards) place old refl within c.in-Some.ensures.value) c.trim_if_due.ensures
