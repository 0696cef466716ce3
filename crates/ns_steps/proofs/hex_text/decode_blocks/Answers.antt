use Rattle.std.proofs.Common.{◌≡◌, ◌+◌, ◌*◌, ◌-◌, ◌/◌, ◌%◌, ◌<◌, ◌++◌, take, drop, length, min, Ok, IsErr, refl, sym, ap, subst, ◌∙◌, arith}
use Rattle.std.proofs.lemmas.List.{take_all}
use Rattle.std.proofs.lemmas.Simd.{Each1-chunk}
use Rattle.std.proofs.lemmas.Slice.{take-put_mid}
use Rattle.hex.proofs.HexLemmas.{decode_of-even}
use Rattle.ns_steps.specs.HexText.{digit_or_16}
use Rattle.ns_steps.specs.Private.HexDigits.{AreDigits, bytes_of}
use Rattle.ns_steps.proofs.HexDigits.{AreBytes, next_bytes, decodes, refuses}
use Rattle.ns_steps.proofs.hex_text.decode_blocks.Goals as goal

pub sixteens-init : goal.sixteens-init
sixteens-init c =
    let text = c.args.text.now in
    let m : min (16 * 0) (length text / 2) ≡ 0 = omega arith in
    subst (AreBytes text c.args.out.now) (sym m) (tt, refl)

pub sixteens-preserved : goal.sixteens-preserved
sixteens-preserved c =
    let text = c.args.text.now in
    let out = c.sixteens.out in
    let at = c.min-at.result in
    let long : 2 * at + 32 - 2 * at ≡ 32 = omega arith in
    let is : c.copy_from_slice.new.self ≡ c.in-Some.bytes = c.copy_from_slice.ensures.after in
    let sixteen : length c.copy_from_slice.new.self ≡ 16 = omega arith in
    let put = take-put_mid at (at + 16 - at) out c.copy_from_slice.new.self (at + 16) (omega (arith, sixteen)) (omega arith) ∙ ap (λ l. take at out ++ l) is in
    let digits : AreDigits (take 32 (drop (2 * at) text)) = subst (λ n. AreDigits (take n (drop (2 * at) text))) long c.in-Some.ensures.read.0 in
    let bytes : c.in-Some.bytes ≡ bytes_of (take 32 (drop (2 * at) text)) = c.in-Some.ensures.read.1 ∙ ap (λ n. bytes_of (take n (drop (2 * at) text))) long in
    let m : min (16 * (c.sixteens.i + 1)) (length text / 2) ≡ at + 16 = omega (arith, c.min-at.ensures, c.requires.twice, c.requires.long, c.sixteens-test.true, c.div_ceil-i-end.ensures) in
    subst (AreBytes text _) (sym m)
    (next_bytes text out _ c.in-Some.bytes (min (16 * c.sixteens.i) (length text / 2)) at (omega (arith, c.requires.twice)) (omega (arith, c.min-at.ensures, c.requires.twice)) c.sixteens.invariant digits bytes put)

pub returns-in_default-clause-refused : goal.returns-in_default-clause-refused
returns-in_default-clause-refused c =
    let text = c.args.text.now in
    let at = c.min-at.result in
    let even : length text % 2 ≡ 0 = omega (arith, c.requires.twice) in
    subst IsErr (sym (decode_of-even text even))
    (refuses text 0 even (λ digits. c.in_default.ensures.refused (Each1-chunk (λ x. digit_or_16 x < 16) (2 * at) (2 * at + 32 - 2 * at) text digits)))

pub returns-clause-read : goal.returns-clause-read
returns-clause-read c =
    let text = c.args.text.now in
    let out = c.sixteens.out in
    let n = length text / 2 in
    let even : length text % 2 ≡ 0 = omega (arith, c.requires.twice) in
    let m : min (16 * c.sixteens.i) n ≡ n = omega (arith, c.requires.twice, c.sixteens-test.false, c.div_ceil-i-end.ensures) in
    let read : AreBytes text out n = subst (AreBytes text out) m c.sixteens.invariant in
    let whole : take (2 * n) text ≡ text = take_all (2 * n) text (omega (arith, c.requires.twice)) in
    let all : out ≡ bytes_of text = sym (take_all n out (omega (arith, c.requires.twice, c.sixteens.auto.out))) ∙ read.1 ∙ ap bytes_of whole in
    decode_of-even text even ∙ decodes text 0 even (subst AreDigits whole read.0) ∙ ap Ok (sym all)
