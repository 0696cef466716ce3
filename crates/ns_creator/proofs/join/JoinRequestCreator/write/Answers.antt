use Rattle.std.proofs.Common.{◌≡◌, ◌++◌, length, ◌∙◌, rules}
use Rattle.ns_types.proofs.ByteLemmas.{AreBytes-slice}
use Rattle.ns_creator.proofs.Written.{IsJoinRequest-written}
use Rattle.ns_creator.proofs.join.JoinRequestCreator.write.Goals as goal

pub returns-clause-grammar : goal.returns-clause-grammar
returns-clause-grammar c =
    let before = c.write_before_mic.new.out in
    let mic_bytes = c.copy_from_slice.new.self in
    let four : length mic_bytes ≡ 4 = search rules in
    let known = c.write_before_mic.ensures in
    IsJoinRequest-written c.args.keys.now.root.0 c.args.self.now before mic_bytes known.is (c.copy_from_slice.ensures.after ∙ c.join_mic_of-mic_bytes.ensures)
    known.join_eui known.dev_eui known.nonce four (AreBytes-slice (before ++ mic_bytes) (λ i. search rules))
