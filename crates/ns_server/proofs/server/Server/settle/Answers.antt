use Rattle.std.proofs.Common.{◌+◌, ◌∙◌, ap, subst}
use Rattle.ns_roster.specs.Valid.{IsRoster}
use Rattle.ns_server.proofs.Shards.{row_at}
use Rattle.ns_server.proofs.server.Server.settle.Goals as goal

pub invariant_of-result : goal.invariant_of-result
invariant_of-result g c =
    let opened = c.open_all-roster.ensures in
    (opened.roster, opened.sixteen, row_at _ _ opened.states)

pub returns-clause-states : goal.returns-clause-states
returns-clause-states g c = row_at _ _ c.open_all-roster.ensures.states

pub returns-clause-made : goal.returns-clause-made
returns-clause-made g c = λ k s at.
    row_at _ _ c.open_all-roster.ensures.made k s at ∙ ap (λ n. (g.B.Naming.begun k).made + n) (c.all_shares-all.ensures.amounts k)

pub returns-clause-begun : goal.returns-clause-begun
returns-clause-begun g c = row_at _ _ c.open_all-roster.ensures.begun

pub returns-clause-merges : goal.returns-clause-merges
returns-clause-merges g c =
    let opened = c.open_all-roster.ensures in
    let valid = subst IsRoster (c.deref.ensures ∙ opened.roster) c.net_id-net.ensures.valid in
    λ lists left. c.merges_of_what_leaves_are_legal.ensures _ valid lists _ left
