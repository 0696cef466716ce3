use Rattle.std.proofs.Common.{refl, arith, rules}
use Rattle.std.proofs.lemmas.Bool.Decides.{nat_tests}
use Rattle.ns_types.proofs.ByteLemmas.{AreBytes-slice}
use Rattle.ns_views.proofs.Made.{IsJoinSized, IsJoinRequest-sized}
use Rattle.ns_views.proofs.join.JoinView.of.Goals as goal

pub invariant_of-result : goal.invariant_of-result
invariant_of-result c =
    let sized : IsJoinSized c.args.bytes.now = record {
      major = c.requires.major;
      ftype = grind (arith, nat_tests, c.requires.join);
      size = c.if-bytes-ne23.false;
    } in
    IsJoinRequest-sized c.args.bytes.now (AreBytes-slice c.args.bytes.now (λ i. search rules)) sized

pub returns-clause-ok : goal.returns-clause-ok
returns-clause-ok c = (refl, invariant_of-result c)
