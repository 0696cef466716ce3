use Rattle.std.proofs.Common.{refl, sym, arith}
use Rattle.std.specs.Prelude.{codes, take}
use Rattle.std.proofs.lemmas.Bool.Decides.{Decides-eqb}
use Rattle.std.proofs.lemmas.Slice.Eq.{slice_eq-Decides}
use Rattle.ns_joinclient.proofs.PlaceLemmas.{start_is}
use Rattle.ns_joinclient.proofs.place.begins_status.Goals as goal

pub returns-clause-start : goal.returns-clause-start
returns-clause-start c = λ yes.
    let bytes = c.args.bytes.now in
    let rest = c.in-Some.rest.now in
    let (same, behind, long) = c.in-Some.ensures.cases in
    let front = (slice_eq-Decides Decides-eqb (take 7 bytes) (codes "HTTP/1.") _ (sym same)).0 refl in
    start_is bytes rest front behind (omega arith) (omega arith) (omega arith) (omega arith)
    (sym c.if-not-is_ascii_digit.ensures.value) (sym c.if-not-is_ascii_digit-2.ensures.value) (sym c.if-not-is_ascii_digit-3.ensures.value)
