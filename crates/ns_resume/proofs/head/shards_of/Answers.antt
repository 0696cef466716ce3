use Rattle.std.proofs.Common.{◌≡◌, List, length, refl, sym, subst}
use Rattle.std.proofs.lemmas.Result.{IfOk-weaker}
use Rattle.std.specs.Arc.{arc_value}
use Rattle.ns_types.specs.Identity.{shard_count}
use Rattle.ns_roster.specs.Network.{Network}
use Rattle.ns_checkpoint.specs.declared.tables.Tables.{Tables}
use Rattle.ns_runs.specs.Steps.{no_starts}
use Rattle.ns_resume.specs.Head.{TellHead}
use Rattle.ns_resume.specs.Private.Restored.{AreRestored}
use Rattle.ns_resume.proofs.Restored.{begins-tabled, begins-empty}
use Rattle.ns_resume.proofs.head.shards_of.Goals as goal

pub returns-in-Tabled-clause-shards : goal.returns-in-Tabled-clause-shards
returns-in-Tabled-clause-shards c =
    let net : Network = arc_value c.args.roster in
    IfOk-weaker c.all_restored.result _ _
    (λ list (are, sixteen).
    begins-tabled net c.args.head.now c.in-Tabled.checkpoint list.items c.in-Tabled.is c.requires
    (subst (λ (ts : List Tables). AreRestored net ts list.items) c.as_slice.ensures.value are, sixteen))
    c.all_restored.ensures.shards

pub returns-in_ok-new_shards-in-Steps-clause-shards : goal.returns-in_ok-new_shards-in-Steps-clause-shards
returns-in_ok-new_shards-in-Steps-clause-shards c =
    let net : Network = arc_value c.args.roster in
    begins-empty net c.args.head.now c.in_ok-new_shards-in-Steps.field-0.items (subst (TellHead net no_starts) (sym c.in-Steps.is) refl) c.in_ok-new_shards-in-Steps.ensures

pub returns-in_ok-new_shards-in-Compacted-clause-shards : goal.returns-in_ok-new_shards-in-Compacted-clause-shards
returns-in_ok-new_shards-in-Compacted-clause-shards c =
    let net : Network = arc_value c.args.roster in
    begins-empty net c.args.head.now c.in_ok-new_shards-in-Compacted.field-0.items (subst (TellHead net no_starts) (sym c.in-Compacted.is) refl) c.in_ok-new_shards-in-Compacted.ensures
