use Rattle.std.proofs.Common.{ℕ, List, ap, ◌∙◌, rules, arith}
use Rattle.std.specs.Prelude.{slice_index, sum_by}
use Rattle.std.proofs.lemmas.List.Sums.{sum_by_push}
use Rattle.ns_server.proofs.Shards.{slice_index-added}
use Rattle.ns_server.proofs.settled.all_shares.Goals as goal

pub loop-pass-preserved : goal.loop-pass-preserved
loop-pass-preserved g c = record {
  parts = search rules;
  amounts = λ k.
      let taken = c.in-Some.ensures.items in
      let last = sum_by_push (λ (p : List ℕ). slice_index p k) c.pop-in-loop-pass.new.self.items c.in-Some.pass in
      let whole = ap (sum_by (λ (p : List ℕ). slice_index p k)) taken in
      let merged = ap (λ l. slice_index l k) c.merge.ensures.amounts ∙ slice_index-added c.loop-pass.all.amounts c.into_shares.result.amounts k in
      let other = ap (λ l. slice_index l k) c.into_shares.ensures.amounts in
      omega (arith, c.loop-pass.invariant.amounts k, last, whole, merged, other);
}
