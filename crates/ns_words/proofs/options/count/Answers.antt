use Rattle.std.proofs.Common.{◌≡◌, ◌<◌, ◌^◌, ℕ, Some, arith, refl, subst}
use Rattle.ns_words.specs.Refused.{HasNoCount}
use Rattle.ns_words.proofs.options.count.Goals.{in_default-via-in-Some+then-n-gt0+else-n-most, in_default-via-in-Some+else-n-gt0, in_default-via-in_default}
use Rattle.std.specs.Str.Parse.{ExplainsUnsignedError, HasUnsignedDigitsIfOk}
use Rattle.clap.specs.Words.{found_of, rows_of}
use Rattle.ns_words.specs.Asked.{IsNumber}
use Rattle.ns_words.proofs.OptionLemmas.{IsNumber-read}
use Rattle.ns_words.proofs.RefusedLemmas.{HasNoCount-read, one_number}
use Rattle.ns_words.proofs.options.count.Goals as goal

pub returns-in_default-clause-refused : goal.returns-in_default-clause-refused
returns-in_default-clause-refused c =
    let found = found_of c.args.found.now in
    let id = c.as_str.result.now in
    let read : (n : ℕ) → c.get_one.result ≡ Some n → IsNumber id (rows_of found) n = λ n is.
    IsNumber-read _ (λ text read. ExplainsUnsignedError 10 text read) (λ text read. HasUnsignedDigitsIfOk text read) found id c.get_one.result n c.get_one.ensures.none c.get_one.ensures.value is in
    let below : c.args.most < 2 ^ 32 = c.ranges.most.fits in
    let none : HasNoCount id c.args.most (rows_of found) = elim c.in_default.branch [
      | in_default-via-in-Some+then-n-gt0+else-n-most w ↦ λ n has.
          let same : n ≡ w.in-Some.n = one_number id (rows_of found) n w.in-Some.n has.0 (read w.in-Some.n w.in-Some.is) in
          let above = w.if-n-most.false in
          let fits = has.2 in
          absurd (omega arith)
      | in_default-via-in-Some+else-n-gt0 w ↦ λ n has.
          let same : n ≡ w.in-Some.n = one_number id (rows_of found) n w.in-Some.n has.0 (read w.in-Some.n w.in-Some.is) in
          let zero = w.if-n-gt0.false in
          let fits = has.1 in
          absurd (omega arith)
      | in_default-via-in_default w ↦ HasNoCount-read _ (λ text read. ExplainsUnsignedError 10 text read) (λ text read. HasUnsignedDigitsIfOk text read) found id c.get_one.result c.args.most below c.get_one.ensures.value w.in_default.is
    ] in
    (refl, subst (λ id. HasNoCount id c.args.most (rows_of found)) c.as_str.ensures none)

pub returns-in-Some-clause-number : goal.returns-in-Some-clause-number
returns-in-Some-clause-number c =
    subst (λ id. IsNumber id (rows_of (found_of c.args.found.now)) c.in-Some.n) c.as_str.ensures
    (IsNumber-read _ (λ text read. ExplainsUnsignedError 10 text read) (λ text read. HasUnsignedDigitsIfOk text read) (found_of c.args.found.now) c.as_str.result.now c.get_one.result c.in-Some.n c.get_one.ensures.none c.get_one.ensures.value c.in-Some.is)
