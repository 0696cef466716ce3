use Rattle.std.proofs.Common.{subst, sym, ◌∙◌, ◌<◌, arith}
use Rattle.std.proofs.lemmas.Result.{err_from_is_err_and}
use Rattle.ns_joinclient.proofs.FaultLemmas.{error_is_no_value}
use Rattle.ns_joinclient.proofs.ReadLemmas.{piece_length, fills_none, fills_piece, fills_kept}
use Rattle.ns_joinclient.proofs.response.Response.fill.Goals as goal

pub loop-self-init : goal.loop-self-init
loop-self-init g c = record { read = fills_none _ _ _; sound = c.requires.sound }

pub read_more-requires-clause-sound : goal.read_more-requires-clause-sound
read_more-requires-clause-sound g c = c.loop-self.invariant.sound

pub returns-in_err-read_more-clause-read : goal.returns-in_err-read_more-clause-read
returns-in_err-read_more-clause-read g c = fills_kept _ _ _ _ _ _ _ c.loop-self.invariant.read c.in_err-read_more.ensures.piece

pub returns-in_err-read_more-clause-short : goal.returns-in_err-read_more-clause-short
returns-in_err-read_more-clause-short g c =
    let p = err_from_is_err_and c.from_residual.result c.from_residual.ensures.1 in
    rw (p.1, c.in_err-read_more.ensures.piece.0) (subst (λ n. n < c.args.end) c.len.ensures c.loop-self-test.true)

pub returns-in_err-read_more-clause-whole : goal.returns-in_err-read_more-clause-whole
returns-in_err-read_more-clause-whole g c =
    let p = err_from_is_err_and c.from_residual.result c.from_residual.ensures.1 in
    λ q. absurd (error_is_no_value _ p.0 (sym p.1 ∙ q))

pub returns-in_err-read_more-clause-ended : goal.returns-in_err-read_more-clause-ended
returns-in_err-read_more-clause-ended g c =
    let p = err_from_is_err_and c.from_residual.result c.from_residual.ensures.1 in
    λ q. absurd (error_is_no_value _ p.0 (sym p.1 ∙ q))

pub returns-in_err-read_more-clause-failed : goal.returns-in_err-read_more-clause-failed
returns-in_err-read_more-clause-failed g c =
    let p = err_from_is_err_and c.from_residual.result c.from_residual.ensures.1 in
    rw p.1 c.in_err-read_more.ensures.failed

pub returns-then-branch-eq0-clause-read : goal.returns-then-branch-eq0-clause-read
returns-then-branch-eq0-clause-read g c = fills_piece _ _ _ _ _ _ _ _ c.loop-self.invariant.read c.in_ok-read_more.ensures.piece

pub returns-then-branch-eq0-clause-ended : goal.returns-then-branch-eq0-clause-ended
returns-then-branch-eq0-clause-ended g c = λ q. (omega (arith, piece_length _ _ _ _ _ _ c.in_ok-read_more.ensures.piece), c.in_ok-read_more.ensures.piece.5 c.if-branch-eq0.true)

pub loop-self-preserved : goal.loop-self-preserved
loop-self-preserved g c = record { read = fills_piece _ _ _ _ _ _ _ _ c.loop-self.invariant.read c.in_ok-read_more.ensures.piece; sound = c.in_ok-read_more.ensures.failed }

pub loop-self-smaller : goal.loop-self-smaller
loop-self-smaller g c = omega (arith, piece_length _ _ _ _ _ _ c.in_ok-read_more.ensures.piece)

pub returns-clause-read : goal.returns-clause-read
returns-clause-read g c = c.loop-self.invariant.read

pub returns-clause-whole : goal.returns-clause-whole
returns-clause-whole g c = λ q. omega arith

pub returns-clause-failed : goal.returns-clause-failed
returns-clause-failed g c = c.loop-self.invariant.sound
