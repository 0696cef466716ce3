use Rattle.std.proofs.Common.{◌++◌, [], ap, sym, subst, ◌∙◌, None}
use Rattle.ns_responses.specs.declared.part.Part.TheVariants.{Head, Unchanged}
use Rattle.ns_responses.specs.Held.{HeldBytes}
use Rattle.ns_responses.specs.Finding.{FindsSection}
use Rattle.ns_responses.specs.Plain.{version_text, plain_of}
use Rattle.ns_responses.specs.Reading.{given_of}
use Rattle.ns_responses.proofs.PlainLemmas.{plain_none, GivesBy-trans}
use Rattle.ns_responses.proofs.StepLemmas.{given_by, given_unready, given_held, gives_same, head_read, no_head}
use Rattle.ns_responses.proofs.responses.Responses.read_head.Goals as goal

pub returns-then-heads-eq0-clause-gives : goal.returns-then-heads-eq0-clause-gives
returns-then-heads-eq0-clause-gives g c =
    let now = c.args.self.now in
    gives_same (g.S.Source.left now.stream) _ (given_by Unchanged now.held) [] (λ more.
    given_unready now.part (Head c.args.heads) now.held c.requires.part c.requires.unready more
    ∙ ap (λ n. plain_of n (now.held.unread ++ more)) c.if-heads-eq0.true
    ∙ plain_none (now.held.unread ++ more)
    ∙ sym (given_unready Unchanged Unchanged now.held (λ i. Unchanged) c.requires.unready more))

pub returns-in-Some-clause-gives : goal.returns-in-Some-clause-gives
returns-in-Some-clause-gives g c =
    let now = c.args.self.now in
    let read = c.in_ok-end.ensures.read in
    let held = c.read_section.new.held in
    let before = g.S.Source.left now.stream in
    let after = g.S.Source.left c.read_section.new.source in
    GivesBy-trans before after (g.S.Source.left c.pass_head.new.self.stream) _ (given_by now.part held) (given_of c.pass_head.new.self) [] []
    (head_read before after now.held.unread read.0 _ _ read.2 c.args.heads
    (given_unready now.part (Head c.args.heads) now.held c.requires.part c.requires.unready)
    (λ more. given_unready now.part (Head c.args.heads) held c.requires.part (ap (λ (h : HeldBytes). h.ready) read.1) more
    ∙ ap (λ (h : HeldBytes). plain_of c.args.heads (h.unread ++ more)) read.1))
    c.pass_head.ensures.gives

pub returns-in-None-clause-gives : goal.returns-in-None-clause-gives
returns-in-None-clause-gives g c =
    let now = c.args.self.now in
    let read = c.in_ok-end.ensures.read in
    let before = g.S.Source.left now.stream in
    let after = g.S.Source.left c.read_section.new.source in
    let found : FindsSection version_text (now.held.unread ++ read.0) after None = subst (λ (h : HeldBytes). FindsSection version_text h.unread after None) read.1 (subst (λ r. FindsSection version_text c.read_section.new.held.unread after r) c.in-None.is c.in_ok-end.ensures.found) in
    no_head before after now.held.unread read.0 _ _ read.2 c.args.heads
    (given_unready now.part (Head c.args.heads) now.held c.requires.part c.requires.unready)
    (λ more. given_held Unchanged c.read_section.new.held (now.held.unread ++ read.0) read.1 more)
    found
