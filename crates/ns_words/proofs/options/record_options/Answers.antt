use Rattle.std.proofs.Common.{◌≡◌, ◌∙◌, Bool, true, false, ap, codes, is_some, subst, sym}
use Rattle.clap.specs.Words.{found_of, rows_of}
use Rattle.ns_words.specs.Asked.{IsFlag}
use Rattle.ns_words.proofs.RefusedLemmas.{is_some-map}
use Rattle.ns_words.proofs.options.record_options.Goals.{else-is_some-via-then-is_some+else-flag, else-is_some-via-else-is_some}
use Rattle.clap.proofs.WalkLemmas.{first_value-rows}
use Rattle.ns_words.proofs.options.record_options.Goals as goal

pub returns-then-flag-clause-refused : goal.returns-then-flag-clause-refused
returns-then-flag-clause-refused c =
    let found = found_of c.args.found.now in
    let has : is_some c.get_str.result ≡ true = sym c.is_some.ensures ∙ c.if-is_some.true in (
      sym (ap is_some (c.get_str.ensures ∙ first_value-rows found (codes "record"))) ∙ (is_some-map _ c.get_str.result ∙ has),
      subst (λ (b : Bool). IsFlag (codes "closing") (rows_of found) b) c.if-flag.true c.flag-then-is_some.ensures,
    )

pub returns-clause-record : goal.returns-clause-record
returns-clause-record c = record {
  folder = c.get_str.ensures ∙ first_value-rows (found_of c.args.found.now) (codes "record");
  sync = c.flag.ensures;
  alone = elim c.else-is_some.branch [
    | else-is_some-via-then-is_some+else-flag w ↦ λ has. subst (λ (b : Bool). IsFlag (codes "closing") (rows_of (found_of c.args.found.now)) b) w.if-flag.false w.flag-then-is_some.ensures
    | else-is_some-via-else-is_some w ↦ λ has. let bad : false ≡ true = sym w.if-is_some.false ∙ (c.is_some.ensures ∙ has) in cc
  ];
}
