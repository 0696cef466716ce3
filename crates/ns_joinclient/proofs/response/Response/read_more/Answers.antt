use Rattle.std.proofs.Common.{◌≡◌, ◌+◌, ◌-◌, ◌++◌, length, take, sym, ap, ◌∙◌, arith, length-append}
use Rattle.std.proofs.lemmas.Result.{err_from_is_err_and}
use Rattle.std.proofs.lemmas.Slice.{take-put_mid_below}
use borrow.Rule.Slice.PartMut.{put_mid}
use Rattle.ns_joinclient.proofs.ReadLemmas.{front_length, room_length, put_behind}
use Rattle.ns_joinclient.proofs.response.Response.read_more.Goals as goal

pub returns-in_err-n-clause-piece : goal.returns-in_err-n-clause-piece
returns-in_err-n-clause-piece g c =
    let p = err_from_is_err_and c.from_residual.result c.from_residual.ensures.1 in
    let i = c.self.inside in
    rw p.1 (take-put_mid_below i.filled (c.args.end - i.filled) i.bytes c.read.new.buf i.filled (omega arith) (omega arith) ∙ c.self.view_is, c.in_err-n.ensures.bytes)

pub returns-in_err-n-clause-failed : goal.returns-in_err-n-clause-failed
returns-in_err-n-clause-failed g c =
    let p = err_from_is_err_and c.from_residual.result c.from_residual.ensures.1 in
    rw p.1 c.in_err-n.ensures.failed

pub returns-clause-piece : goal.returns-clause-piece
returns-clause-piece g c =
    let i = c.self.inside in
    let r = c.in_ok-n.ensures in
    let n = c.in_ok-n.n in
    let count : length c.args.self.now ≡ i.filled = front_length i.bytes _ i.filled c.self.view_is (omega arith) in
    let sized : length c.read.new.buf ≡ c.args.end - i.filled = c.read.auto.buf ∙ room_length i.bytes i.filled c.args.end (omega arith) in
    let grown : take (i.filled + n) (put_mid i.filled (c.args.end - i.filled) i.bytes c.read.new.buf) ≡ c.args.self.now ++ take n c.read.new.buf =
    put_behind i.bytes c.read.new.buf c.args.self.now i.filled (c.args.end - i.filled) n c.self.view_is (omega arith) r.bound.0 in (
      take n c.read.new.buf,
      grown,
      r.bytes.0,
      sym r.bound.1,
      omega (arith, ap length grown, length-append c.args.self.now (take n c.read.new.buf), r.bound.0, r.bound.1, count, sized),
      λ none. r.bytes.1 none (omega (arith, sized, count)),
    )

pub overflow_add-self : goal.overflow_add-self
overflow_add-self g c =
    let i = c.self.inside in
    let sized : length c.read.new.buf ≡ c.args.end - i.filled = c.read.auto.buf ∙ room_length i.bytes i.filled c.args.end (omega arith) in
    omega (arith, sized, c.in_ok-n.ensures.bound.0, front_length i.bytes c.args.self.now i.filled c.self.view_is (omega arith))

pub returns-clause-failed : goal.returns-clause-failed
returns-clause-failed g c = c.in_ok-n.ensures.failed

pub invariant_of-self : goal.invariant_of-self
invariant_of-self g c = c.self.invariant

pub invariant_of-self-2 : goal.invariant_of-self-2
invariant_of-self-2 g c =
    let i = c.self.inside in
    let sized : length c.read.new.buf ≡ c.args.end - i.filled = c.read.auto.buf ∙ room_length i.bytes i.filled c.args.end (omega arith) in
    omega (arith, sized, c.in_ok-n.ensures.bound.0, front_length i.bytes c.args.self.now i.filled c.self.view_is (omega arith))
