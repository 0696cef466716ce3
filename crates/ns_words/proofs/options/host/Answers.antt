use Rattle.std.proofs.Common.{◌≡◌, Some, Result, ap, refl, sym, subst, codes, is_some, ◌∙◌}
use Rattle.std.specs.Prelude.{IfErr, IfOk}
use Rattle.clap.specs.Words.{first_of, found_of, rows_of}
use Rattle.ns_exchange.specs.declared.host.HostName.{HostName}
use Rattle.ns_exchange.specs.HostText.{host_text}
use Rattle.ns_words.specs.declared.options.BadWords.{BadWords}
use Rattle.ns_exchange.specs.Host.{is_host_name}
use Rattle.ns_words.specs.declared.options.BadWords.TheVariants.{BadValue}
use Rattle.ns_words.specs.declared.options.OptionName.TheVariants.{Host}
use Rattle.ns_words.specs.Refused.{HasNoHost}
use Rattle.ns_words.proofs.OptionLemmas.{IfOk-ok_or, first_of-got}
use Rattle.ns_words.proofs.RefusedLemmas.{IfErr-ok_or, no_first, some_same}
use Rattle.ns_words.proofs.options.host.Goals as goal

pub returns-in_default-clause-refused : goal.returns-in_default-clause-refused
returns-in_default-clause-refused c = (refl, λ text is. absurd (no_first (found_of c.args.found.now) (codes "host") text c.in_default.ensures is))

pub returns-clause-refused : goal.returns-clause-refused
returns-clause-refused c =
    let found = found_of c.args.found.now in
    let got = first_of-got found (codes "host") c.in-Some.text.now (sym c.in-Some.ensures) in
    subst (λ (r : Result HostName BadWords). IfErr r (λ bad. (bad ≡ BadValue Host) × HasNoHost (codes "host") (rows_of found))) (sym c.ok_or.ensures.value)
    (IfErr-ok_or c.new.result _ _ (λ none. (
      refl,
      λ text is. ap is_host_name (sym (some_same c.in-Some.text.now text (sym got ∙ is))) ∙ (sym c.new.ensures.exact ∙ ap is_some none),
    )))

pub returns-clause-host : goal.returns-clause-host
returns-clause-host c =
    let found = found_of c.args.found.now in
    let got = first_of-got found (codes "host") c.in-Some.text.now (sym c.in-Some.ensures) in
    subst (λ (r : Result HostName BadWords). IfOk r (λ host. first_of (codes "host") (rows_of found) ≡ Some (host_text host))) (sym c.ok_or.ensures.value)
    (IfOk-ok_or c.new.result _ _ (λ host is. let same : host_text host ≡ c.in-Some.text.now = (rw is at c.new.ensures.same) in got ∙ ap Some (sym same)))
