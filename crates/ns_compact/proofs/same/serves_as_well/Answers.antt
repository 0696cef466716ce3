use Rattle.std.proofs.Common.{List, subst}
use Rattle.std.specs.Arc.{arc_value}
use Rattle.ns_roster.specs.Network.{Network}
use Rattle.ns_roster.specs.Valid.{IsRoster}
use Rattle.ns_shard.specs.State.{State}
use Rattle.ns_compact.specs.Compact.{AllTellTheSame}
use Rattle.ns_compact.proofs.GoOn.{go-on}
use Rattle.ns_compact.proofs.same.serves_as_well.Goals as goal

pub returns : goal.returns
returns g c = λ same.
    let net : Network = arc_value c.args.roster in
    let valid : IsRoster net = subst IsRoster c.deref.ensures c.net_id-net_id.ensures.valid in
    let (text, there, all, ups_all, is) = c.in_ok-resumed.ensures.resumed in
    let items : List State = c.in_ok-resumed.resumed.shards.items in
    let tell : AllTellTheSame c.args.old.now items = subst (AllTellTheSame c.args.old.now) c.as_slice.ensures.value (c.have_same_tables.ensures same) in (
      text,
      is.starts,
      is.run.steps,
      all,
      record { head = is.head; begun = is.begun; rest = is.lines; is_text = is.is_text; lines = is.run.lines; torn = is.run.torn; cut = is.run.cut; are_steps = is.run.are_steps; fit = is.run.fit },
      λ before told of_before of_old. go-on net valid before is.starts told is.run.steps c.args.old.now items of_before is.begun.histories of_old is.run.shards tell,
    )
