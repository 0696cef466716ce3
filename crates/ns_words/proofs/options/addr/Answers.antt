use Rattle.std.proofs.Common.{◌≡◌, refl, sym, subst, Result}
use Rattle.std.specs.Prelude.{IfErr, IfOk}
use Rattle.std.specs.declared.net.socket_addr.SocketAddr.{SocketAddr}
use Rattle.clap.specs.Words.{found_of, rows_of}
use Rattle.ns_words.specs.declared.options.BadWords.{BadWords}
use Rattle.ns_words.specs.declared.options.BadWords.TheVariants.{BadValue}
use Rattle.ns_words.specs.Asked.{IsAddr, name_of}
use Rattle.ns_words.specs.Refused.{HasNoAddr}
use Rattle.ns_words.proofs.OptionLemmas.{IsAddr-read, IfOk-ok_or}
use Rattle.ns_words.proofs.RefusedLemmas.{HasNoAddr-read, IfErr-ok_or}
use Rattle.ns_words.proofs.options.addr.Goals as goal

pub returns-clause-refused : goal.returns-clause-refused
returns-clause-refused c =
    let found = found_of c.args.found.now in
    let given = c.get_one-addr in
    subst (λ (r : Result SocketAddr BadWords). IfErr r (λ bad. (bad ≡ BadValue c.args.name) × HasNoAddr (name_of c.args.name) (rows_of found))) (sym c.ok_or.ensures.value)
    (IfErr-ok_or given.result _ _ (λ none. (refl, subst (λ id. HasNoAddr id (rows_of found)) c.as_str.ensures (HasNoAddr-read _ found c.as_str.result.now given.result given.ensures.value none))))

pub returns-clause-addr : goal.returns-clause-addr
returns-clause-addr c =
    let found = found_of c.args.found.now in
    let given = c.get_one-addr in
    subst (λ (r : Result SocketAddr BadWords). IfOk r (IsAddr (name_of c.args.name) (rows_of found))) (sym c.ok_or.ensures.value)
    (IfOk-ok_or given.result _ _ (λ addr is. subst (λ id. IsAddr id (rows_of found) addr) c.as_str.ensures (IsAddr-read _ found c.as_str.result.now given.result addr given.ensures.none given.ensures.value is)))
