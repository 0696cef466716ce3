use Rattle.std.proofs.Common.{map, length, refl, ap, ◌∙◌, arith, [], ◌∷◌, ◌++◌, List, ℕ}
use Rattle.std.proofs.lemmas.List.{length-set}
use Rattle.ns_aes_cmac.specs.Aes.{next_round_key, round_keys_by, round_constants}
use Rattle.ns_aes_cmac.specs.Basis.{from_basis, key_from_basis}
use Rattle.ns_aes_cmac.specs.RoundKeys.{round_key}
use Rattle.ns_aes_cmac.proofs.Keys.{one_more, all_made}
use Rattle.ns_aes_cmac.proofs.key_schedule.expand.Goals as goal

pub loop-i-init : goal.loop-i-init
loop-i-init c = (omega arith, refl, ap (round_keys_by round_constants) c.to_basis-next.ensures)

pub loop-i-preserved : goal.loop-i-preserved
loop-i-preserved c =
    let nine = ap (λ (l : List ℕ). length l) c.constants-last_constant.ensures.between in
    let long = length-set c.loop-i.keys.between c.loop-i.i (record { bytes = c.round_key.result }) in (
      long ∙ c.loop-i.invariant.0,
      c.loop-i.invariant.1,
      one_more c.loop-i.keys.between c.constants-last_constant.result.0.now c.loop-i.i _ (map from_basis c.loop-i.next) (map from_basis c.next_key-next.result) _ (omega arith) c.loop-i.invariant.0
          c.constants-last_constant.ensures.between c.next_key-next.ensures c.round_key.ensures c.loop-i.invariant.2,
    )

pub returns : goal.returns
returns c =
    let nine = ap (λ (l : List ℕ). length l) c.constants-last_constant.ensures.between in
    ap (λ (k : List ℕ). k ∷ (map round_key c.loop-i.keys.between ++ c.from_basis-keys.result ∷ [])) c.loop-i.invariant.1
    ∙ ap (λ (l : List (List ℕ)). c.args.key.now ∷ l)
    (all_made c.loop-i.keys.between c.loop-i.i (map from_basis c.loop-i.next) c.from_basis-keys.result _ (omega arith) c.loop-i.invariant.0
    (c.from_basis-keys.ensures ∙ c.next_key.ensures ∙ ap (λ n. next_round_key (key_from_basis n) (map from_basis c.loop-i.next)) c.constants-last_constant.ensures.last) c.loop-i.invariant.2)
