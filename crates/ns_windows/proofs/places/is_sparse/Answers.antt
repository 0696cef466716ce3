use Rattle.std.proofs.Common.{◌≡◌, ◌+◌, suc, length, take, sym, ap, arith, ◌∙◌}
use Rattle.std.specs.Map.{values_of}
use Rattle.ns_windows.specs.Places.{open_of}
use Rattle.ns_windows.proofs.Opened.{open-take-some, open-take-none}
use Rattle.ns_windows.proofs.places.is_sparse.Goals as goal
use Rattle.ns_windows.proofs.places.is_sparse.Goals.{then-is_open_at, else-is_open_at}

pub loop-at-preserved : goal.loop-at-preserved
loop-at-preserved c =
    let ps = values_of c.args.names.now.entries in
    let at = c.loop-at.at in
    let inv = c.loop-at.invariant in
    let next : suc at ≡ at + 1 = omega arith in
    elim c.if-is_open_at.branch [
      | then-is_open_at w ↦ (
          let more : length (open_of (take (suc at) ps)) ≡ suc (length (open_of (take at ps))) = open-take-some ps at (sym c.is_open_at.ensures ∙ w.if-is_open_at.true) in
          let now : c.if-is_open_at.windows ≡ length (open_of (take (suc at) ps)) = omega (arith, w.windows-is, inv.1, more) in
          (omega (arith, w.windows-is, inv.0), now ∙ ap (λ k. length (open_of (take k ps))) next))
      | else-is_open_at w ↦ (
          let same : length (open_of (take (suc at) ps)) ≡ length (open_of (take at ps)) = open-take-none ps at (sym c.is_open_at.ensures ∙ w.if-is_open_at.false) in
          let now : c.if-is_open_at.windows ≡ length (open_of (take (suc at) ps)) = omega (arith, w.windows-is, inv.1, same) in
          (omega (arith, w.windows-is, inv.0), now ∙ ap (λ k. length (open_of (take k ps))) next))
    ]
