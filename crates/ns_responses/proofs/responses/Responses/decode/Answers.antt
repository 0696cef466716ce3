use Rattle.std.proofs.Common.{[], ap, sym, subst, refl, ◌∙◌, false, inr, take, drop}
use Rattle.http1.specs.ChunkedDecoder.{Advances, FailsAt}
use Rattle.ns_responses.specs.declared.part.Part.TheVariants.{Chunks}
use Rattle.ns_responses.proofs.PlainLemmas.{decoded, not_lawful, whole_always}
use Rattle.ns_responses.proofs.StepLemmas.{given_by, given_unready, gives_same, data_held}
use Rattle.ns_responses.proofs.responses.Responses.decode.Goals as goal

pub returns-in-Ok-clause-gives : goal.returns-in-Ok-clause-gives
returns-in-Ok-clause-gives g c =
    let now = c.args.self.now in
    let u = now.held.unread in
    let span = c.in-Ok.span in
    let decoder = c.args.decoder in
    let room = c.args.room in
    let advances : Advances decoder u c.decode.new.self span = subst (λ l. Advances decoder l c.decode.new.self span) c.unread.ensures.value c.in-Ok.ensures.ok in
    gives_same (g.S.Source.left now.stream) _ (given_by (Chunks c.decode.new.self room) c.release.new.self) [] (λ more.
    given_unready now.part (Chunks decoder room) now.held c.requires.part c.requires.unready.0 more
    ∙ decoded decoder c.decode.new.self u span advances (take room more) (drop room more)
    ∙ sym (ap (λ h. given_by (Chunks c.decode.new.self room) h more) (data_held u span c.skip.new.self c.release.new.self advances.ordered c.skip.ensures c.release.ensures)))

pub returns-in-Err-clause-fault : goal.returns-in-Err-clause-fault
returns-in-Err-clause-fault g c =
    let now = c.args.self.now in
    let u = now.held.unread in
    let decoder = c.args.decoder in
    let room = c.args.room in
    let fails : FailsAt decoder u c.decode.new.self c.in-Err.field-0 = subst (λ l. FailsAt decoder l c.decode.new.self c.in-Err.field-0) c.unread.ensures.value c.in-Err.ensures.err in
    rw c.refuse.ensures (inr (
      refl,
      whole_always (g.S.Source.left now.stream) (given_by now.part now.held) false (λ more.
          ap (λ g. g.whole) (given_unready now.part (Chunks decoder room) now.held c.requires.part c.requires.unready.0 more)
          ∙ not_lawful decoder c.decode.new.self u c.in-Err.field-0 fails (take room more) (drop room more)),
    ))
