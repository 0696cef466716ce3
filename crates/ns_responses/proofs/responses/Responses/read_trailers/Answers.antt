use Rattle.std.proofs.Common.{◌++◌, [], subst, Some}
use Rattle.ns_responses.specs.declared.part.Part.TheVariants.{Trailers, Ended}
use Rattle.ns_responses.specs.Held.{HeldBytes}
use Rattle.ns_responses.specs.Finding.{FindsSection}
use Rattle.ns_responses.proofs.StepLemmas.{given_unready, given_held, trailers_read}
use Rattle.ns_responses.proofs.responses.Responses.read_trailers.Goals as goal

pub returns-in-Some-clause-gives : goal.returns-in-Some-clause-gives
returns-in-Some-clause-gives g c =
    let now = c.args.self.now in
    let read = c.in_ok-read_section.ensures.read in
    let before = g.S.Source.left now.stream in
    let after = g.S.Source.left c.read_section.new.source in
    let found : FindsSection [] (now.held.unread ++ read.0) after (Some c.in-Some.field-0) = subst (λ (h : HeldBytes). FindsSection [] h.unread after (Some c.in-Some.field-0)) read.1 (subst (λ r. FindsSection [] c.read_section.new.held.unread after r) c.in-Some.is c.in_ok-read_section.ensures.found) in
    trailers_read before after now.held.unread read.0 _ _ read.2 c.in-Some.field-0
    (given_unready now.part Trailers now.held c.requires.part c.requires.unready)
    (given_held Ended c.read_section.new.held (now.held.unread ++ read.0) read.1)
    found
