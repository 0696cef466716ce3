use Rattle.std.proofs.Common.{ℕ, ◌+◌, ◌^◌, ◌≤◌, List, length, refl, sym, ap, subst, ◌∙◌}
use Rattle.std.proofs.lemmas.Result.{IfOk-from_err}
use Rattle.ns_journal.specs.State.{AreNumbersOf, with_numbers}
use Rattle.ns_shard.proofs.Trimmed.{few-kept, state-trimmed, parts-trimmed}
use Rattle.ns_shard.proofs.parts.Parts.trim.Goals as goal

pub returns-clause-few : goal.returns-clause-few
returns-clause-few c =
    let p = c.args.self.now in
    rw (c.in_ok-entries.ensures.entries ∙ (ap (λ ns. with_numbers ns p.journal.entries) c.as_slice.ensures.value ∙ c.in_ok-named.ensures.stay)) (few-kept p c.requires)

pub returns-clause-agree : goal.returns-clause-agree
returns-clause-agree c =
    let p = c.args.self.now in
    let cut = c.in_ok-entries.ensures.entries ∙ (ap (λ ns. with_numbers ns p.journal.entries) c.as_slice.ensures.value ∙ c.in_ok-named.ensures.stay) in
    let made = c.in_ok-entries.ensures.made in
    parts-trimmed p c.requires (record p { journal = c.cut.new.self; mark = c.made-mark.result; named = c.in_ok-named.named })
    (state-trimmed p c.requires c.cut.new.self c.made-mark.result c.in_ok-named.named.items made cut (c.made-mark.ensures ∙ made) c.in_ok-named.ensures.named)
    refl refl c.in_ok-entries.ensures.reserved

pub returns-in_err-named-clause-state : goal.returns-in_err-named-clause-state
returns-in_err-named-clause-state c = IfOk-from_err c.from_residual.result _ c.from_residual.ensures.0

pub returns-in_err-named-clause-mark : goal.returns-in_err-named-clause-mark
returns-in_err-named-clause-mark c = IfOk-from_err c.from_residual.result _ c.from_residual.ensures.0

pub returns-in_err-named-clause-dropped : goal.returns-in_err-named-clause-dropped
returns-in_err-named-clause-dropped c = IfOk-from_err c.from_residual.result _ c.from_residual.ensures.0

pub returns-in_err-named-clause-few : goal.returns-in_err-named-clause-few
returns-in_err-named-clause-few c = IfOk-from_err c.from_residual.result _ c.from_residual.ensures.0

pub returns-in_err-entries-clause-state : goal.returns-in_err-entries-clause-state
returns-in_err-entries-clause-state c = IfOk-from_err c.from_residual-in_err-entries.result _ c.from_residual-in_err-entries.ensures.0

pub returns-in_err-entries-clause-mark : goal.returns-in_err-entries-clause-mark
returns-in_err-entries-clause-mark c = IfOk-from_err c.from_residual-in_err-entries.result _ c.from_residual-in_err-entries.ensures.0

pub returns-in_err-entries-clause-dropped : goal.returns-in_err-entries-clause-dropped
returns-in_err-entries-clause-dropped c = IfOk-from_err c.from_residual-in_err-entries.result _ c.from_residual-in_err-entries.ensures.0

pub returns-in_err-entries-clause-few : goal.returns-in_err-entries-clause-few
returns-in_err-entries-clause-few c = IfOk-from_err c.from_residual-in_err-entries.result _ c.from_residual-in_err-entries.ensures.0

pub cut-requires : goal.cut-requires
cut-requires c = record {
  numbers = subst (AreNumbersOf c.args.self.now.journal.entries) (sym c.as_slice.ensures.value) c.in_ok-named.ensures.numbers;
  fits = subst (λ (ns : List ℕ). c.args.self.now.journal.made ≤ 2 ^ 63 + length ns) (sym c.as_slice.ensures.value) c.in_ok-named.ensures.fits;
}

pub returns-clause-state : goal.returns-clause-state
returns-clause-state c =
    let p = c.args.self.now in
    let cut = c.in_ok-entries.ensures.entries ∙ (ap (λ ns. with_numbers ns p.journal.entries) c.as_slice.ensures.value ∙ c.in_ok-named.ensures.stay) in
    let made = c.in_ok-entries.ensures.made in
    state-trimmed p c.requires c.cut.new.self c.made-mark.result c.in_ok-named.named.items made cut (c.made-mark.ensures ∙ made) c.in_ok-named.ensures.named

pub returns-clause-mark : goal.returns-clause-mark
returns-clause-mark c = c.made-mark.ensures ∙ c.in_ok-entries.ensures.made
