use Rattle.std.proofs.Common.{◌≡◌, ℕ, List, [], ◌∷◌, ◌++◌, length, subst, sym, ap, ◌∙◌, append-nil, arith}
use Rattle.std.proofs.KnownBytes.{Consumes-nil}
use Rattle.std.specs.Io.KnownBytes.{Consumes}
use Rattle.ns_steps.specs.StepLines.{ended}
use Rattle.ns_resume.specs.declared.ups.Ups.{Ups}
use Rattle.ns_resume.specs.Resumed.{AreUps}
use Rattle.ns_resume.specs.Private.Lines.{feed_of}
use Rattle.ns_resume.proofs.Lines.{empty}
use Rattle.ns_resume.proofs.UpLines.{ups-missing, ups-there, ups-torn}
use Rattle.ns_resume.proofs.ups.Ups.implied.Goals as goal
use Rattle.ns_resume.proofs.ups.Ups.implied.Goals.{then-is_empty+in_ok-has+else-branch, else-is_empty}

pub returns-then-branch-clause-ups : goal.returns-then-branch-clause-ups
returns-then-branch-clause-ups g c = λ there ups are.
    let line : List ℕ = c.args.line.now in
    let part : List ℕ = c.has.new.self.line.items in
    let torn : ℕ = c.args.self.now.torn in
    let none : c.args.self.now.missing.items ≡ [] = empty c.args.self.now.missing.items c.args.self.now.missing.len (omega arith) (sym c.is_empty.ensures ∙ c.if-is_empty.true) in
    let (rest, is, no_rest) = c.in_ok-has.ensures.front in
    let same : part ≡ line = sym (is ∙ ap (λ r. part ++ r) (no_rest c.if-branch.true) ∙ append-nil part) in
    let read : Consumes (g.U.Read.remaining c.args.source.now) (g.U.Read.remaining c.has.new.source) (ended line) =
    subst (λ l. Consumes (g.U.Read.remaining c.args.source.now) (g.U.Read.remaining c.has.new.source) (l ++ 10 ∷ [])) same
    (subst (λ w. Consumes (g.U.Read.remaining c.args.source.now) (g.U.Read.remaining c.has.new.source) (part ++ feed_of w)) c.if-branch.true c.in_ok-has.ensures.bytes) in
    let now : AreUps (there ++ ended line) (ups ++ ended line) [] torn = ups-there there ups torn (subst (λ m. AreUps there ups m torn) none are) line in (
      ended line,
      read,
      rw (c.has.ensures.missing ∙ none, c.has.ensures.torn) now,
    )

pub returns-clause-ups : goal.returns-clause-ups
returns-clause-ups g c = λ there ups are.
    let line : List ℕ = c.args.line.now in
    let torn : ℕ = c.args.self.now.torn in
    elim c.if-is_empty.branch [
      | then-is_empty+in_ok-has+else-branch w ↦
          (let part : List ℕ = w.has.new.self.line.items in
          let none : c.args.self.now.missing.items ≡ [] = empty c.args.self.now.missing.items c.args.self.now.missing.len (omega arith) (sym c.is_empty.ensures ∙ w.if-is_empty.true) in
          let (rest, is, no_rest) = w.in_ok-has.ensures.front in
          let read : Consumes (g.U.Read.remaining c.args.source.now) (g.U.Read.remaining w.has.new.source) (part ++ []) =
          subst (λ b. Consumes (g.U.Read.remaining c.args.source.now) (g.U.Read.remaining w.has.new.source) (part ++ feed_of b)) w.if-branch.false w.in_ok-has.ensures.bytes in
          let missing : c.miss.new.self.missing.items ≡ ended line =
          c.in_ok-miss.ensures.missing ∙ ap (λ l. l ++ ended line) (ap (λ (s : Ups). s.missing.items) w.self-is ∙ (w.has.ensures.missing ∙ none)) in
          let bytes : c.miss.new.self.torn ≡ length part = c.miss.ensures.torn ∙ (ap (λ (s : Ups). s.torn) w.self-is ∙ omega arith) in (
            part ++ [],
            subst (λ s. Consumes (g.U.Read.remaining c.args.source.now) (g.U.Read.remaining s) (part ++ [])) (sym w.source-is) read,
            rw (missing, bytes) (ups-torn there ups torn (subst (λ m. AreUps there ups m torn) none are) line part rest is),
          ))
      | else-is_empty w ↦
          (let missing : c.miss.new.self.missing.items ≡ c.args.self.now.missing.items ++ ended line =
          c.in_ok-miss.ensures.missing ∙ ap (λ (s : Ups). s.missing.items ++ ended line) w.self-is in
          let bytes : c.miss.new.self.torn ≡ torn = c.miss.ensures.torn ∙ ap (λ (s : Ups). s.torn) w.self-is in (
            [],
            subst (λ s. Consumes (g.U.Read.remaining c.args.source.now) (g.U.Read.remaining s) []) (sym w.source-is) (Consumes-nil (g.U.Read.remaining c.args.source.now)),
            rw (missing, bytes) (ups-missing there ups c.args.self.now.missing.items line torn are),
          ))
    ]
