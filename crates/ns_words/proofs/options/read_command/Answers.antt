use Rattle.std.proofs.Common.{◌≡◌, ◌∙◌, true, false, inl, inr, subst, sym, codes}
use Rattle.std.proofs.lemmas.Slice.Eq.{bytes_eq-Decides}
use Rattle.clap.specs.Words.{Text, found_of, rows_of}
use Rattle.clap.proofs.WalkLemmas.{first_value-rows}
use Rattle.ns_words.specs.Refused.{IsReadBehind}
use Rattle.ns_words.proofs.OptionLemmas.{first_of-got}
use Rattle.ns_words.proofs.options.read_command.Goals as goal

pub returns-in_default : goal.returns-in_default
returns-in_default c = inl (sym (first_value-rows (found_of c.args.found.now) (codes "ROSTER")) ∙ sym c.in_default.ensures)

pub returns-then-eq : goal.returns-then-eq
returns-then-eq c =
    let found = found_of c.args.found.now in
    let named = (bytes_eq-Decides c.args.name.now (codes "serve")).0 (sym c.if-eq.ensures) in
    subst (λ (name : Text). IsReadBehind name (rows_of found) c.read_serve.result) (sym named)
    (c.read_serve.ensures (first_of-got found (codes "ROSTER") c.in-Some.path.now (sym c.in-Some.ensures)))

pub returns-then-eq-2 : goal.returns-then-eq-2
returns-then-eq-2 c =
    let found = found_of c.args.found.now in
    let named = (bytes_eq-Decides c.args.name.now (codes "replay")).0 (sym c.if-eq-2.ensures) in
    subst (λ (name : Text). IsReadBehind name (rows_of found) c.read_replay.result) (sym named)
    (c.read_replay.ensures (first_of-got found (codes "ROSTER") c.in-Some.path.now (sym c.in-Some.ensures)))

pub returns-then-eq-3 : goal.returns-then-eq-3
returns-then-eq-3 c =
    let found = found_of c.args.found.now in
    let named = (bytes_eq-Decides c.args.name.now (codes "check")).0 (sym c.if-eq-3.ensures) in
    subst (λ (name : Text). IsReadBehind name (rows_of found) c.read_check.result) (sym named)
    (c.read_check.ensures (first_of-got found (codes "ROSTER") c.in-Some.path.now (sym c.in-Some.ensures)))

pub returns-then-eq-4 : goal.returns-then-eq-4
returns-then-eq-4 c =
    let found = found_of c.args.found.now in
    let named = (bytes_eq-Decides c.args.name.now (codes "compact")).0 (sym c.if-eq-4.ensures) in
    subst (λ (name : Text). IsReadBehind name (rows_of found) c.read_compact.result) (sym named)
    (c.read_compact.ensures (first_of-got found (codes "ROSTER") c.in-Some.path.now (sym c.in-Some.ensures)))

pub returns-else-eq-4 : goal.returns-else-eq-4
returns-else-eq-4 c = inr (inr (λ named. elim named [
  | inl is ↦ (let bad : false ≡ true = c.if-eq.ensures ∙ (bytes_eq-Decides c.args.name.now (codes "serve")).1 is in cc)
  | inr (inl is) ↦ (let bad : false ≡ true = c.if-eq-2.ensures ∙ (bytes_eq-Decides c.args.name.now (codes "replay")).1 is in cc)
  | inr (inr (inl is)) ↦ (let bad : false ≡ true = c.if-eq-3.ensures ∙ (bytes_eq-Decides c.args.name.now (codes "check")).1 is in cc)
  | inr (inr (inr is)) ↦ (let bad : false ≡ true = c.if-eq-4.ensures ∙ (bytes_eq-Decides c.args.name.now (codes "compact")).1 is in cc)
]))
