use Rattle.std.proofs.Common.{refl, sym, Ok}
use Rattle.std.proofs.lemmas.Option.{slice_get_read}
use Rattle.ns_types.specs.Identity.{shard_count}
use Rattle.ns_runs.proofs.StepEnds.{refused-ends, kept-shard, call-made}
use Rattle.ns_runs.proofs.run.apply.Goals as goal

pub returns-in_err-answer : goal.returns-in_err-answer
returns-in_err-answer c =
    refused-ends c.args.shards.now.items (Ok c.args.call.now) _ c.from_residual.result c.from_residual.ensures.0 refl
    (kept-shard c.args.shards.now.items c.shard_of_call-index.result c.index_mut-shard.result.now c.apply_boxed.new.self
    (slice_get_read c.args.shards.now.items shard_count c.shard_of_call-index.result c.index_mut-shard.result.now (sym c.requires.sixteen) c.shard_of_call-index.ensures.below c.index_mut-shard.ensures.value)
    c.in_err-answer.ensures.err)

pub returns : goal.returns
returns c =
    call-made c.args.shards.now.items c.args.call.now c.shard_of_call-index.result c.index_mut-shard.result.now c.apply_boxed.new.self c.made-number.result c.in_ok-answer.answer
    c.shard_of_call-index.ensures.is
    (slice_get_read c.args.shards.now.items shard_count c.shard_of_call-index.result c.index_mut-shard.result.now (sym c.requires.sixteen) c.shard_of_call-index.ensures.below c.index_mut-shard.ensures.value)
    c.made-number.ensures.made c.in_ok-answer.ensures.answer c.in_ok-answer.ensures.entry
