use Rattle.std.proofs.Common.{◌≡◌, [], sym, ◌∙◌}
use Rattle.http1.specs.declared.chunked.State.TheVariants.{Done}
use Rattle.ns_responses.specs.declared.part.Part.TheVariants.{Chunks, Trailers}
use Rattle.ns_responses.proofs.StepLemmas.{given_by, given_unready, gives_same, chunks_done}
use Rattle.ns_responses.proofs.responses.Responses.pass_chunks.Goals as goal

pub returns-then-is_done-clause-gives : goal.returns-then-is_done-clause-gives
returns-then-is_done-clause-gives g c =
    let now = c.args.self.now in
    let done : c.args.decoder.state ≡ Done = c.is_done.ensures.0 c.if-is_done.true in
    gives_same (g.S.Source.left now.stream) _ (given_by Trailers now.held) [] (λ more.
    given_unready now.part (Chunks c.args.decoder c.args.room) now.held c.requires.part c.requires.unready more
    ∙ chunks_done c.args.decoder now.held.unread more c.args.room done
    ∙ sym (given_unready Trailers Trailers now.held (λ i. Trailers) c.requires.unready more))
