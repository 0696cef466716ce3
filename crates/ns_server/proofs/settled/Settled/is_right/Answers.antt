use Rattle.std.proofs.Common.{refl, rules}
use Rattle.std.proofs.lemmas.Bool.{both_ways, not-true, not_from_false, false_from_ne_true}
use Rattle.std.proofs.lemmas.Option.{slice_get_read}
use Rattle.ns_server.proofs.Checking.{right_stands, right_is}
use Rattle.ns_server.proofs.settled.Settled.is_right.Goals as goal

pub returns-then-has : goal.returns-then-has
returns-then-has g c =
    let at = slice_get_read c.args.receipts.now _ c.args.i _ refl c.requires c.index-receipts-i.is in (
      (λ fresh. right_stands c.args.self.now c.args.receipts.now c.args.i c.index-receipts-i.result at (c.has.ensures.0 c.if-has.true) (λ repeated. both_ways _ (not-true _ fresh) (c.is_repeated.ensures.1 repeated))),
      (λ right.
          let stands = right_is c.args.self.now c.args.receipts.now c.args.i c.index-receipts-i.result at (λ passed. absurd (cc (c.if-is_passed.false, c.is_passed.ensures.1 passed))) right in
          not_from_false _ (false_from_ne_true _ (λ is. stands.1 (c.is_repeated.ensures.0 is)))),
    )

pub returns-else-has : goal.returns-else-has
returns-else-has g c =
    let at = slice_get_read c.args.receipts.now _ c.args.i _ refl c.requires c.index-receipts-i.is in (
      (λ t. absurd (cc t)),
      (λ right.
          let stands = right_is c.args.self.now c.args.receipts.now c.args.i c.index-receipts-i.result at (λ passed. absurd (cc (c.if-is_passed.false, c.is_passed.ensures.1 passed))) right in
          absurd (cc (c.if-has.false, c.has.ensures.1 stands.0))),
    )

pub offset_bounds-receipts-i : goal.offset_bounds-receipts-i
offset_bounds-receipts-i g c = search rules

pub bounds-receipts-i : goal.bounds-receipts-i
bounds-receipts-i g c = c.requires
