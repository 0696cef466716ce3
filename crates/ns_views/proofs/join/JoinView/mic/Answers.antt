use Rattle.std.proofs.Common.{◌≡◌, ◌∙◌, arith, drop, take, ap}
use Rattle.std.proofs.lemmas.List.{take_all, length-drop}
use Rattle.ns_views.proofs.join.JoinView.mic.Goals as goal

pub returns : goal.returns
returns c =
    let bytes = c.args.self.now in
    let four : c.array_at.result ≡ take 4 (drop 19 c.bytes.result.now) = c.array_at.ensures in
    four ∙ ap (λ b. take 4 (drop 19 b)) c.bytes.ensures.value
    ∙ take_all 4 (drop 19 bytes) (omega (arith, length-drop 19 bytes, c.bytes.ensures.len))
