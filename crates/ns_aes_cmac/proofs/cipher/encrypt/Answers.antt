use Rattle.std.proofs.Common.{List, length, map, ap, ◌∙◌, arith}
use Rattle.ns_aes_cmac.specs.Aes.{xor_bytes, shift_rows, sub_bytes}
use Rattle.ns_aes_cmac.specs.Basis.{from_basis}
use Rattle.ns_aes_cmac.specs.declared.key_schedule.RoundKey.{RoundKey}
use Rattle.ns_aes_cmac.proofs.Rounds.{aes_begins, aes_later, aes_ends}
use Rattle.ns_aes_cmac.proofs.cipher.encrypt.Goals as goal

pub loop-i-init : goal.loop-i-init
loop-i-init c key e = aes_begins c.args.keys.now key c.args.block (map from_basis c.to_basis-v.result) e c.to_basis-v.ensures

pub loop-i-preserved : goal.loop-i-preserved
loop-i-preserved c key e =
    let same = c.after_first.ensures.between in
    let long = ap (λ (l : List RoundKey). length l) same in
    aes_later c.args.keys.now c.after_first.result.0.now (map from_basis c.loop-i.v) (map from_basis c.round-v.result) _ c.loop-i.i _ (omega arith) same c.round-v.ensures (c.loop-i.invariant key e)

pub returns : goal.returns
returns c key e =
    let long = ap (λ (l : List RoundKey). length l) c.after_first.ensures.between in
    aes_ends c.args.keys.now (map from_basis c.loop-i.v) c.last_round.result _ c.loop-i.i (omega arith)
    (c.last_round.ensures ∙ ap (λ k. xor_bytes k (shift_rows (sub_bytes (map from_basis c.loop-i.v)))) c.after_first.ensures.last) (c.loop-i.invariant key e)
