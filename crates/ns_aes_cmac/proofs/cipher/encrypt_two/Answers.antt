use Rattle.std.proofs.Common.{map, refl, arith}
use Rattle.ns_aes_cmac.specs.Basis.{from_basis}
use Rattle.ns_aes_cmac.proofs.Rounds.{aes_begins, aes_later, aes_ends}
use Rattle.ns_aes_cmac.proofs.cipher.encrypt_two.Goals as goal

pub loop-i-init : goal.loop-i-init
loop-i-init c key e = (
  aes_begins c.args.keys.now key c.args.first (map from_basis c.to_basis-v.result) e c.to_basis-v.ensures,
  aes_begins c.args.keys.now key c.args.second (map from_basis c.to_basis-u.result) e c.to_basis-u.ensures,
)

pub loop-i-preserved : goal.loop-i-preserved
loop-i-preserved c key e = (
  aes_later c.args.keys.now c.args.keys.now.between (map from_basis c.loop-i.v) (map from_basis c.round-v.result) _ c.loop-i.i _ (omega arith) refl c.round-v.ensures (c.loop-i.invariant key e).0,
  aes_later c.args.keys.now c.args.keys.now.between (map from_basis c.loop-i.u) (map from_basis c.round-u.result) _ c.loop-i.i _ (omega arith) refl c.round-u.ensures (c.loop-i.invariant key e).1,
)

pub returns-clause-first : goal.returns-clause-first
returns-clause-first c key e = aes_ends c.args.keys.now (map from_basis c.loop-i.v) c.last_round.result _ c.loop-i.i (omega arith) c.last_round.ensures (c.loop-i.invariant key e).0

pub returns-clause-second : goal.returns-clause-second
returns-clause-second c key e = aes_ends c.args.keys.now (map from_basis c.loop-i.u) c.last_round-2.result _ c.loop-i.i (omega arith) c.last_round-2.ensures (c.loop-i.invariant key e).1
