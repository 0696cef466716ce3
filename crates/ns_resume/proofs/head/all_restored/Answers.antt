use Rattle.std.proofs.Common.{◌≡◌, ℕ, ◌+◌, ◌<◌, ◌∷◌, [], List, length, length-append, get_or, arith, refl, ap, sym, ◌∙◌, subst}
use Rattle.std.specs.Arc.{arc_value}
use Rattle.std.proofs.lemmas.Option.{slice_get_read}
use Rattle.ns_roster.specs.Network.{Network}
use Rattle.ns_shard.specs.State.{State}
use Rattle.ns_checkpoint.specs.declared.tables.Tables.{Tables}
use Rattle.ns_resume.specs.Private.Restored.{AreRestored}
use Rattle.ns_resume.proofs.Restored.{restored-none, restored-more}
use Rattle.ns_resume.proofs.head.all_restored.Goals as goal

pub shards-init : goal.shards-init
shards-init c =
    let net : Network = arc_value c.args.roster.now in
    record {
      many = ap length c.in_ok-list.ensures.items;
      are = subst (AreRestored net c.args.tables.now) (sym c.in_ok-list.ensures.items) (restored-none net c.args.tables.now);
    }

pub shards-preserved : goal.shards-preserved
shards-preserved c =
    let net : Network = arc_value c.args.roster.now in
    let list : List State = c.shards.list.items in
    let tables : List Tables = c.args.tables.now in
    let n : ℕ = c.shards.index in
    let t : Tables = c.index-tables-from.result in
    let within : n < length tables = omega (arith, c.shards-test.true, c.requires) in
    let pushed = c.in_default.ensures.items in
    record {
      many = ap length pushed ∙ (length-append list (c.in_ok-shard.shard ∷ []) ∙ ap (λ m. m + 1) c.shards.invariant.many);
      are = subst (AreRestored net tables) (sym pushed)
          (restored-more net tables list n c.in_ok-shard.shard t c.shards.invariant.many c.shards.invariant.are (slice_get_read tables (length tables) n t refl within (subst (λ m. t ≡ get_or tables m t) c.from-in-shards.ensures c.index-tables-from.is)) c.in_ok-shard.ensures.shard);
    }
