use Rattle.std.proofs.Common.{◌≡◌, ℕ, ◌+◌, List, [], ◌∷◌, ◌++◌, length, length-append, Option, subst, arith}
use Rattle.std.proofs.KnownBytes.{Consumes-trans}
use Rattle.std.specs.Io.KnownBytes.{Consumes}
use Rattle.ns_resume.specs.Private.Lines.{feed_of}
use Rattle.ns_resume.proofs.base.skip_ups.Goals as goal

pub lines-preserved : goal.lines-preserved
lines-preserved g c =
    let (there, read, sum) = c.lines.invariant in
    let now : Option (List ℕ) = g.U.Read.remaining c.lines.ups in
    let next : Option (List ℕ) = g.U.Read.remaining c.read_line.new.source in
    let line : List ℕ = c.read_line.new.line.items in
    let more : Consumes now next (line ++ 10 ∷ []) = subst (λ w. Consumes now next (line ++ feed_of w)) c.if-not-is_whole.false c.in_ok-is_whole.ensures.bytes in
    let joined : length (there ++ (line ++ 10 ∷ [])) ≡ length there + length (line ++ 10 ∷ []) = length-append there (line ++ 10 ∷ []) in
    let ended : length (line ++ 10 ∷ []) ≡ length line + 1 = length-append line (10 ∷ []) in (
      there ++ (line ++ 10 ∷ []),
      Consumes-trans (g.U.Read.remaining c.args.ups.now) now next there (line ++ 10 ∷ []) read more,
      omega (arith, joined, ended, sum),
    )
