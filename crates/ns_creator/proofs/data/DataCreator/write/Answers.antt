use Rattle.std.proofs.Common.{◌≡◌, ◌++◌, ◌≤◌, length, length-append, ◌∙◌, rules, arith}
use Rattle.ns_types.proofs.ByteLemmas.{AreBytes-slice}
use Rattle.ns_creator.specs.DataFrame.{plain_frame}
use Rattle.ns_creator.proofs.Written.{IsDataFrame-written}
use Rattle.ns_creator.proofs.data.DataCreator.write.Goals as goal

pub returns-clause-grammar : goal.returns-clause-grammar
returns-clause-grammar c =
    let before = c.write_before_mic.new.out in
    let mic_bytes = c.copy_from_slice.new.self in
    let four : length mic_bytes ≡ 4 = search rules in
    let size : length (before ++ mic_bytes) ≤ 255 = omega (arith, length-append before mic_bytes, c.write_before_mic.auto.out, c.split_at_mut-signed.ensures.front_len, c.requires.most) in
    IsDataFrame-written c.args.keys.now (plain_frame c.args.self.now) before mic_bytes c.write_before_mic.ensures (c.copy_from_slice.ensures.after ∙ c.mic_of-mic_bytes.ensures)
    c.requires.flags c.requires.options c.requires.ported (search rules) four (AreBytes-slice (before ++ mic_bytes) (λ i. search rules)) size
