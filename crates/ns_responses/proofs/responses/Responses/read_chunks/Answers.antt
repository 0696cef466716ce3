use Rattle.std.proofs.Common.{◌≡◌, ◌-◌, ℕ, [], ◌++◌, ap, refl, ◌∙◌, false, inr, take, drop}
use Rattle.std.proofs.lemmas.List.{nil_from_length}
use Rattle.std.proofs.Math.Seq.{take-nil}
use Rattle.ns_responses.specs.declared.part.Part.TheVariants.{Chunks}
use Rattle.ns_responses.specs.Held.{HeldBytes, unready}
use Rattle.ns_responses.specs.Plain.{dechunked}
use Rattle.ns_responses.proofs.PlainLemmas.{not_ended, whole_always, whole_ended}
use Rattle.ns_responses.proofs.StepLemmas.{given_by, given_unready, chunks_read}
use Rattle.ns_responses.proofs.responses.Responses.read_chunks.Goals as goal

pub returns-then-room-eq0-clause-fault : goal.returns-then-room-eq0-clause-fault
returns-then-room-eq0-clause-fault g c =
    let now = c.args.self.now in
    let decoder = c.args.decoder in
    let room = c.args.room in
    rw c.refuse.ensures (inr (
      refl,
      whole_always (g.S.Source.left now.stream) (given_by now.part now.held) false (λ more.
          let coded : now.held.unread ++ take room more ≡ [] = (λ i. (c.requires.empty i).unread ++ take (c.if-room-eq0.true i) more) in
          ap (λ g. g.whole) (given_unready now.part (Chunks decoder room) now.held c.requires.part (ap (λ (h : HeldBytes). h.ready) c.requires.empty) more)
          ∙ ap (λ l. (dechunked decoder l (drop room more)).whole) coded
          ∙ not_ended decoder (drop room more) c.requires.unfinished),
    ))

pub returns-then-n-eq0-clause-fault : goal.returns-then-n-eq0-clause-fault
returns-then-n-eq0-clause-fault g c =
    let now = c.args.self.now in
    let decoder = c.args.decoder in
    let room = c.args.room in
    let filled = c.in_ok-n.ensures.piece in
    let nothing : filled.0 ≡ [] = nil_from_length filled.0 (filled.3 ∙ c.if-n-eq0.true) in
    let held : c.fill.new.self ≡ unready [] = filled.1 ∙ (λ i. unready ((c.requires.empty i).unread ++ nothing i)) in
    let left = g.S.Source.left c.fill.new.source in
    rw c.refuse-then-n-eq0.ensures (inr (
      refl,
      whole_ended left (given_by now.part c.fill.new.self) false (filled.5 c.if-n-eq0.true)
          (ap (λ g. g.whole) (given_unready now.part (Chunks decoder room) c.fill.new.self c.requires.part (ap (λ (h : HeldBytes). h.ready) held) [])
          ∙ ap (λ l. (dechunked decoder l (drop room [])).whole) (λ i. (held i).unread ++ take-nil {A = ℕ} room i)
          ∙ not_ended decoder (drop room []) c.requires.unfinished),
    ))

pub returns-clause-gives : goal.returns-clause-gives
returns-clause-gives g c =
    let now = c.args.self.now in
    let decoder = c.args.decoder in
    let room = c.args.room in
    let filled = c.in_ok-n.ensures.piece in
    chunks_read (g.S.Source.left now.stream) (g.S.Source.left c.fill.new.source) now.held.unread filled.0 _ _ filled.2 decoder room c.in_ok-n.n filled.3 filled.4
    (given_unready now.part (Chunks decoder room) now.held c.requires.part (ap (λ (h : HeldBytes). h.ready) c.requires.empty))
    (λ more. ap (λ h. given_by (Chunks decoder (room - c.in_ok-n.n)) h more) filled.1)
