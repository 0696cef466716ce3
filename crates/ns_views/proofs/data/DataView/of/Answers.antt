use Rattle.std.proofs.Common.{refl, arith, rules}
use Rattle.ns_types.proofs.ByteLemmas.{AreBytes-slice}
use Rattle.ns_views.proofs.Made.{IsDataSized, IsDataUplink-sized}
use Rattle.ns_views.proofs.Sized.{data_type-cases}
use Rattle.ns_views.proofs.data.DataView.of.Goals as goal

sized : (c : goal.Else-len-options) → IsDataSized c.args.bytes.now
sized c = record {
  major = c.requires.major;
  ftype = data_type-cases c.args.bytes.now c.requires.data;
  least = c.if-len-lt12.false;
  options = omega (arith, c.from-options.ensures, c.if-len-options.false);
  most = c.if-len-gt255.false;
}

pub invariant_of-result : goal.invariant_of-result
invariant_of-result c = IsDataUplink-sized c.args.bytes.now (AreBytes-slice c.args.bytes.now (λ i. search rules)) (sized c)

pub returns-clause-ok : goal.returns-clause-ok
returns-clause-ok c = (refl, invariant_of-result c)
